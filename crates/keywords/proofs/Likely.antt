-- The table of likely keywords is held against the names of all keywords, by computing.
use Rattle.std.proofs.Common.{◌≡◌, ◌+◌, ◌*◌, ◌-◌, ◌%◌, ◌<◌, ◌≤◌, ◌⊎◌, inl, inr, ℕ, Bool, true, ◌&&◌, nat_le, length, slice_index_or, refl, ap, arith}
use Rattle.std.proofs.lemmas.Bool.{and_parts, leb-true}
use Rattle.definitions.specs.Values.{Text}
use Rattle.keywords.specs.Rows.{row_of}
use Rattle.keywords.specs.declared.keyword.Keyword.{Keyword}
use Rattle.keywords.specs.declared.keyword.Keyword.TheVariants.{Ref}
use Rattle.keywords.specs.declared.keyword.TheConstants.{LIKELY}

-- the place of a name in the table
abbrev pub place : Text → ℕ
place t = (74 * length t + 106 * slice_index_or t 1 0 + slice_index_or t (length t - 5) 0) % 128

pub likely_there : (k : Keyword) → slice_index_or LIKELY (place (row_of k).name) Ref ≡ k
likely_there Ref = refl
likely_there _ = refl

-- their lengths
abbrev is_length : ℕ → Bool
is_length n = nat_le 2 n && nat_le n 21

lengths : (k : Keyword) → is_length (length (row_of k).name) ≡ true
lengths Ref = refl
lengths _ = refl

within : (n : ℕ) → is_length n ≡ true → (2 ≤ n) × (n ≤ 21)
within n h = let parts = and_parts (nat_le 2 n) (nat_le n 21) h in (leb-true 2 n parts.0, leb-true n 21 parts.1)

pub no_length : (name : Text) → (length name < 2) ⊎ ((2 ≤ length name) × (21 < length name)) → (k : Keyword) → name ≡ (row_of k).name → ⊥
no_length name other k e =
    let l = within (length (row_of k).name) (lengths k) in
    let same : length name ≡ length (row_of k).name = ap length e in
    elim other [
      | inl less ↦ omega (arith, l, same, less)
      | inr more ↦ omega (arith, l, same, more)
    ]

-- The text of a reference token, run by run: what stands as it is, one escape, and the rest.
use Rattle.std.proofs.Common.{◌≡◌, ℕ, suc, ◌+◌, ◌<◌, ◌≤◌, ◌==◌, ◌||◌, List, [], ◌∷◌, ◌++◌, Bool, true, false, not, cond, Some, None, get_or, take, drop, length, nat_lt, codes, flat_map, refl, sym, ap, ◌∙◌, arith, append-nil, append_assoc}
use Rattle.std.proofs.Math.Seq.{drop-cons}
use Rattle.std.proofs.lemmas.List.{take_all, drop_all}
use Rattle.std.proofs.lemmas.List.Quantifiers.{position-Some}
use Rattle.std.proofs.lemmas.List.Concat.{flat_map-append}
use Rattle.std.specs.List.{position, position_or_len}
use Rattle.definitions.specs.Pointers.{escaped_byte, pointer_text}
use Rattle.lemmas.proofs.Options.{past_from_none}
use Rattle.json_pointer.specs.Escapes.{is_escaped}

as_it_is : (x : ℕ) (a b : Bool) → (a || b) ≡ false → cond a (codes "~0") (cond b (codes "~1") (x ∷ [])) ≡ x ∷ []
as_it_is x true b h = cc
as_it_is x false true h = cc
as_it_is x false false h = refl

step : (x : ℕ) (bs : List ℕ) (n : ℕ) (b : Bool) → is_escaped x ≡ b → flat_map escaped_byte bs ≡ take n bs ++ flat_map escaped_byte (drop n bs)
    → flat_map escaped_byte (x ∷ bs) ≡ take (cond (not b) (1 + n) 0) (x ∷ bs) ++ flat_map escaped_byte (drop (cond (not b) (1 + n) 0) (x ∷ bs))
step x bs n true e h = refl
step x bs n false e h =
    let more : 1 + n ≡ suc n = omega arith in
    rw (more, as_it_is x (x == 126) (x == 47) e) (ap (λ r. x ∷ r) h)

-- up to the first byte that needs an escape, the token stands as it is
runs : (bs : List ℕ) → flat_map escaped_byte bs ≡ take (position_or_len is_escaped bs) bs ++ flat_map escaped_byte (drop (position_or_len is_escaped bs) bs)
runs [] = refl
runs (x ∷ bs) = step x bs _ (is_escaped x) refl (runs bs)

found_at : (b : Bool) (n i : ℕ) → cond b (Some n) None ≡ Some i → n ≡ i
found_at true n i e = cc
found_at false n i e = cc

-- the first escape, and what stands before and after it
pub escape_at : (bs : List ℕ) (i : ℕ) → position is_escaped bs ≡ Some i
    → flat_map escaped_byte bs ≡ take i bs ++ (escaped_byte (get_or bs i 0) ++ flat_map escaped_byte (drop (i + 1) bs))
escape_at bs i e =
    let n : position_or_len is_escaped bs ≡ i = found_at (nat_lt (position_or_len is_escaped bs) (length bs)) _ i e in
    let within : i < length bs = (position-Some is_escaped bs i 0 e).0 in
    let next : i + 1 ≡ suc i = omega arith in
    rw n at (runs bs) ∙ ap (λ r. take i bs ++ flat_map escaped_byte r) (drop-cons bs i 0 within) ∙ rw next refl

-- with no escape the token stands as it is
pub no_escape : (bs : List ℕ) → position is_escaped bs ≡ None → flat_map escaped_byte bs ≡ bs
no_escape bs e =
    let n = position_or_len is_escaped bs in
    let past : length bs ≤ n = past_from_none n (length bs) _ refl e in
    runs bs ∙ rw (take_all n bs past, drop_all n bs past) (append-nil bs)

pub is_ascii : (x : ℕ) → is_escaped x ≡ true → x < 128
is_ascii x h = grind (arith, h)

-- one more token
pub pointer_text-more : (ts : List (List ℕ)) (t : List ℕ) → pointer_text (ts ++ t ∷ []) ≡ (pointer_text ts ++ 47 ∷ []) ++ flat_map escaped_byte t
pointer_text-more ts t = flat_map-append (λ (u : List ℕ). 47 ∷ flat_map escaped_byte u) ts (t ∷ []) ∙ rw (append-nil (47 ∷ flat_map escaped_byte t)) (sym (append_assoc (pointer_text ts) (47 ∷ []) (flat_map escaped_byte t)))

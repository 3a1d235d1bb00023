-- The part of a base that stands before a relative path.
use Rattle.std.proofs.Common.{◌≡◌, ℕ, zero, suc, ◌+◌, ◌<◌, ◌==◌, [], ◌∷◌, true, false, get_or, take, length, refl, ap, arith, eq-eqb}
use Rattle.std.proofs.lemmas.List.Folds.{list_any_at}
use Rattle.std.proofs.lemmas.Str.{IsCharBoundary-after_ascii}
use Rattle.std.specs.Str.{IsCharBoundary, IsUtf8}
use Rattle.std.specs.List.{list_any}
use Rattle.definitions.specs.Values.{Text}
use Rattle.definitions.specs.Resolution.{up_to_last_slash}
use Rattle.uri_ref.specs.Places.{Lacks, IsLast}
use Rattle.uri_ref.proofs.Rules.{any_none}

pub up_none : (bs : Text) → Lacks 47 bs → [] ≡ up_to_last_slash bs
up_none [] h = refl
up_none (x ∷ xs) h = let none : list_any (λ d. d == 47) (x ∷ xs) ≡ false = any_none (x ∷ xs) h in rw none refl

up_at : (bs : Text) (n : ℕ) → IsLast 47 bs n → take (suc n) bs ≡ up_to_last_slash bs
up_at [] n h = absurd (omega (arith, h.0))
up_at (x ∷ xs) zero h =
    let found : list_any (λ d. d == 47) (x ∷ xs) ≡ true = list_any_at (λ d. d == 47) (x ∷ xs) 0 0 (omega arith) (eq-eqb x 47 h.1) in
    rw found (ap (λ r. x ∷ r) (up_none xs (λ i l. h.2 (suc i) (omega arith) (omega arith))))
up_at (x ∷ xs) (suc n) h =
    let within : n < length xs = omega (arith, h.0) in
    let found : list_any (λ d. d == 47) (x ∷ xs) ≡ true = list_any_at (λ d. d == 47) (x ∷ xs) (suc n) 0 h.0 (eq-eqb (get_or xs n 0) 47 h.1) in
    rw found (ap (λ r. x ∷ r) (up_at xs n (within, h.1, λ i l m. h.2 (suc i) (omega arith) (omega arith))))

pub up_to : (bs : Text) (n : ℕ) → IsLast 47 bs n → take (n + 1) bs ≡ up_to_last_slash bs
up_to bs n h = let next : n + 1 ≡ suc n = omega arith in rw next (up_at bs n h)

pub boundary_past : (bs : Text) (n : ℕ) → IsUtf8 bs → IsLast 47 bs n → IsCharBoundary bs (n + 1)
boundary_past bs n u h = let small : get_or bs n 0 < 128 = omega (arith, h.1) in IsCharBoundary-after_ascii bs n u h.0 small

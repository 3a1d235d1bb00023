-- Where a text is cut: before, or at, the first byte that is a sign.
use Rattle.std.proofs.Common.{◌≡◌, ℕ, zero, suc, ◌+◌, ◌<◌, ◌≤◌, ◌==◌, List, [], ◌∷◌, ◌++◌, Bool, true, false, not, cond, Option, Some, None, get_or, take, drop, length, refl, ap, ◌∙◌, arith, position, eq-eqb}
use Rattle.std.proofs.lemmas.Bool.{ne_eqb}
use Rattle.std.proofs.lemmas.List.Quantifiers.{position-Some}
use Rattle.std.specs.List.{position_or_len}
use Rattle.definitions.specs.Lists.{cut_at, split_before}
use Rattle.lemmas.proofs.Options.{past_from_none}
use Rattle.uri_ref.specs.Places.{Lacks}

cut_before : (c : ℕ) (xs ys : List ℕ) → Lacks c xs → cut_at (λ d. d == c) (xs ++ c ∷ ys) ≡ (xs, Some ys)
cut_before c [] ys h = rw (eq-eqb c c refl) refl
cut_before c (x ∷ xs) ys h =
    let apart : (x == c) ≡ false = ne_eqb x c (h 0 (omega arith)) in
    rw apart (ap (λ (r : List ℕ × Option (List ℕ)). (x ∷ r.0, r.1)) (cut_before c xs ys (λ i l. h (suc i) (omega arith))))

pub cut_some : (c : ℕ) (bs xs ys : List ℕ) → (bs ≡ xs ++ (c ∷ ys)) × Lacks c xs → cut_at (λ d. d == c) bs ≡ (xs, Some ys)
cut_some c bs xs ys h = ap (cut_at (λ d. d == c)) h.0 ∙ cut_before c xs ys h.1

pub cut_none : (c : ℕ) (bs : List ℕ) → Lacks c bs → cut_at (λ d. d == c) bs ≡ (bs, None)
cut_none c [] h = refl
cut_none c (x ∷ xs) h =
    let apart : (x == c) ≡ false = ne_eqb x c (h 0 (omega arith)) in
    rw apart (ap (λ (r : List ℕ × Option (List ℕ)). (x ∷ r.0, r.1)) (cut_none c xs (λ i l. h (suc i) (omega arith))))

before_at : (p : ℕ → Bool) (xs : List ℕ) (i : ℕ) → i < length xs → p (get_or xs i 0) ≡ true → ((k : ℕ) → k < i → p (get_or xs k 0) ≡ false) → split_before p xs ≡ (take i xs, drop i xs)
before_at p [] i l e h = absurd (omega arith)
before_at p (x ∷ xs) zero l e h = rw e refl
before_at p (x ∷ xs) (suc i) l e h =
    rw (h 0 (omega arith)) (ap (λ (r : List ℕ × List ℕ). (x ∷ r.0, r.1)) (before_at p xs i (omega arith) e (λ k q. h (suc k) (omega arith))))

before_step : (p : ℕ → Bool) (x : ℕ) (xs : List ℕ) (n : ℕ) (b : Bool) → p x ≡ b → (length xs ≤ n → split_before p xs ≡ (xs, [])) → suc (length xs) ≤ cond (not b) (1 + n) 0 → split_before p (x ∷ xs) ≡ (x ∷ xs, [])
before_step p x xs n true e h l = absurd (omega arith)
before_step p x xs n false e h l = rw e (ap (λ (r : List ℕ × List ℕ). (x ∷ r.0, r.1)) (h (omega arith)))

before_end : (p : ℕ → Bool) (xs : List ℕ) → length xs ≤ position_or_len p xs → split_before p xs ≡ (xs, [])
before_end p [] l = refl
before_end p (x ∷ xs) l = before_step p x xs (position_or_len p xs) (p x) refl (before_end p xs) l

pub before_some : (p : ℕ → Bool) (xs : List ℕ) (i : ℕ) → position p xs ≡ Some i → split_before p xs ≡ (take i xs, drop i xs)
before_some p xs i e = let at = position-Some p xs i 0 e in before_at p xs i at.0 at.1 at.2

pub before_none : (p : ℕ → Bool) (xs : List ℕ) → position p xs ≡ None → split_before p xs ≡ (xs, [])
before_none p xs e = before_end p xs (past_from_none (position_or_len p xs) (length xs) _ refl e)

pub slash_is_ascii : (x : ℕ) → (x == 47) ≡ true → x < 128
slash_is_ascii x h = grind (arith, h)

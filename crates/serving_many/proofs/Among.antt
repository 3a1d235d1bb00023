-- Members of lists of numbers, and occasions.
use Rattle.std.proofs.Common.{◌≡◌, ◌≢◌, ◌<◌, ◌+◌, ◌⊎◌, ℕ, Bool, List, [], ◌∷◌, ◌++◌, length, get_or, drop, Option, Some, None, refl, sym, ap, ◌∙◌, subst, inl, inr, ⊎_elim}
use Rattle.std.proofs.lemmas.Bool.{cases_eq}
use Rattle.std.proofs.lemmas.List.{drop_more}
use Rattle.definitions.specs.Values.{Text}
use Rattle.network.specs.Readiness.{has_bytes, IsAmong, AllDue, OthersDue}
use Rattle.network.specs.declared.networks.Occasion.{Occasion}
use Rattle.network.specs.declared.networks.Occasion.TheVariants.{Opens, Ready, Late, Over}

pub among_last : (k : ℕ) (xs : List ℕ) → IsAmong k (xs ++ k ∷ [])
among_last k [] = inl refl
among_last k (x ∷ xs) = inr (among_last k xs)

pub among_on : (k : ℕ) (xs ys : List ℕ) → IsAmong k xs → IsAmong k (xs ++ ys)
among_on k [] ys m = absurd m
among_on k (x ∷ xs) ys (inl e) = inl e
among_on k (x ∷ xs) ys (inr m) = inr (among_on k xs ys m)

pub among_first : (k : ℕ) (xs : List ℕ) (i d : ℕ) → i < length xs → IsAmong k (drop i xs) → (k ≡ get_or xs i d) ⊎ IsAmong k (drop (i + 1) xs)
among_first k xs i d lt m = subst (IsAmong k) (drop_more xs i d lt) m

-- once the first of them is due
pub due_next : (u v : ℕ → Option Text) (before after : Bool → ℕ → Type 0) (id : ℕ) (ids : List ℕ) (i : ℕ) → i < length ids → id ≡ get_or ids i 0
    → ((k : ℕ) → k ≢ id → v k ≡ u k) → OthersDue id before after → ((bytes : Text) → v id ≡ Some bytes → after (has_bytes bytes) id)
    → AllDue u before (drop i ids) → AllDue v after (drop (i + 1) ids)
due_next u v before after id ids i lt is stay others own x k bytes e =
    ⊎_elim
    (λ same. inl (subst (after (has_bytes bytes)) (sym same) (own bytes (ap v (sym same) ∙ e))))
    (λ ne. ⊎_elim (λ d. inl (others k (has_bytes bytes) ne d)) (λ m. ⊎_elim (λ first. absurd (ne (first ∙ sym is))) (λ later. inr later) (among_first k ids i 0 lt m)) (x k bytes (sym (stay k ne) ∙ e)))
    (cases_eq k id)

pub same_number : (a b : ℕ) → Ready a ≡ Ready b → a ≡ b
same_number a b e = cc

pub opens_not_over : (r : Option Occasion) (k : ℕ) → r ≡ Some Over → r ≡ Some (Opens k) → ⊥
opens_not_over r k e f = cc (e, f)

pub late_not_over : (r : Option Occasion) (k : ℕ) → r ≡ Some Over → r ≡ Some (Late k) → ⊥
late_not_over r k e f = cc (e, f)

pub no_some : {A : Type 0} (x : A) (p : Option A) → p ≡ Some x → p ≡ None → ⊥
no_some x p e f = cc (e, f)

pub same_occasion : (r : Option Occasion) (a b : Occasion) → r ≡ Some a → r ≡ Some b → a ≡ b
same_occasion r a b e f = cc

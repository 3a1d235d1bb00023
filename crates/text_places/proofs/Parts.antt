-- A walk that goes on from a part of a list.
use Rattle.std.proofs.Common.{◌≡◌, ◌≤◌, ◌-◌, ◌+◌, ℕ, List, ap, sym, ◌∙◌, take, drop, arith}
use Rattle.std.specs.List.{fold}
use Rattle.std.proofs.Math.Seq.{take-add}
use Rattle.std.proofs.lemmas.List.Sums.{fold-append}

pub fold_on : {A B : Type 0} (f : B → A → B) (a : B) (xs : List A) (i j : ℕ) → i ≤ j → fold f (fold f a (take i xs)) (take (j - i) (drop i xs)) ≡ fold f a (take j xs)
fold_on f a xs i j le =
    let e : i + (j - i) ≡ j = omega (arith, le) in
    sym (fold-append f a (take i xs) (take (j - i) (drop i xs)))
    ∙ ap (fold f a) (sym (take-add i (j - i) xs))
    ∙ ap (λ n. fold f a (take n xs)) e

-- A list that a loop makes, and what is left to add.
use Rattle.std.proofs.Common.{◌≡◌, ◌<◌, ◌+◌, ℕ, List, [], ◌∷◌, ◌++◌, length, get_or, drop, sym, ap, ◌∙◌, append_assoc, append-nil}
use Rattle.std.proofs.lemmas.List.{drop_more}

pub grown : {Y : Type 0} (done next here left rest all : List Y) → next ≡ done ++ here → left ≡ here ++ rest → done ++ left ≡ all → next ++ rest ≡ all
grown done next here left rest all e f so_far = ap (λ ys. ys ++ rest) e ∙ append_assoc done here rest ∙ ap (λ ys. done ++ ys) (sym f) ∙ so_far

pub ended : {Y : Type 0} (done left all : List Y) → left ≡ [] → done ++ left ≡ all → done ≡ all
ended done left all none so_far = sym (append-nil done) ∙ ap (λ ys. done ++ ys) (sym none) ∙ so_far

-- the item of a loop, and those that are left behind it
pub next_item : {Y : Type 0} (ys : List Y) (i : ℕ) (y : Y) → i < length ys → y ≡ get_or ys i y → drop i ys ≡ y ∷ drop (i + 1) ys
next_item ys i y within is = drop_more ys i y within ∙ ap (λ z. z ∷ drop (i + 1) ys) (sym is)

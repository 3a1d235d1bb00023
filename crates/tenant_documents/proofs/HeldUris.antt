-- One text more among those that pass a test.
use Rattle.std.proofs.Common.{◌≡◌, ◌<◌, ◌+◌, ◌++◌, ℕ, Bor, Bool, true, false, cond, List, [], ◌∷◌, filter, map, take, length, get_or, ap, ◌∙◌, append-nil}
use Rattle.std.proofs.lemmas.List.Elements.{filter-append}
use Rattle.definitions.specs.Values.{Text}
use Rattle.lemmas.proofs.Lists.{map-take_more}

module _ (p : Text → Bool) (xs : List (Bor Text)) (i : ℕ) (key : Bor Text) (lt : i < length xs) (is : key ≡ get_or xs i key) where
  abbrev before : List Text
  before = map (λ (t : Bor Text). t.now) (take i xs)

  with_key : filter p (map (λ (t : Bor Text). t.now) (take (i + 1) xs)) ≡ filter p before ++ cond (p key.now) (key.now ∷ []) []
  with_key = ap (filter p) (map-take_more (λ (t : Bor Text). t.now) xs i key lt is) ∙ filter-append p before (key.now ∷ [])

  pub kept_more : p key.now ≡ true → filter p (map (λ (t : Bor Text). t.now) (take (i + 1) xs)) ≡ filter p before ++ key.now ∷ []
  kept_more e = with_key ∙ ap (λ b. filter p before ++ cond b (key.now ∷ []) []) e

  pub left_more : p key.now ≡ false → filter p (map (λ (t : Bor Text). t.now) (take (i + 1) xs)) ≡ filter p before
  left_more e = with_key ∙ ap (λ b. filter p before ++ cond b (key.now ∷ []) []) e ∙ append-nil (filter p before)

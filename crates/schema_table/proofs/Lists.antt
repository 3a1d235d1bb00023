-- Lists that a loop makes of the items of another.
use Rattle.std.proofs.Common.{◌≡◌, ◌<◌, ◌≤◌, ℕ, ◌+◌, List, [], ◌∷◌, ◌++◌, map, length, get_or, drop, sym, ap, ap₂, ◌∙◌, append_assoc}
use Rattle.std.proofs.lemmas.List.{drop_more, drop_all, map-append}

module _ {A : Type 0} where
  pub next_item : (xs ys : List A) (i : ℕ) (x : A) → xs ≡ ys → i < length xs → x ≡ get_or xs i x → drop i ys ≡ x ∷ drop (i + 1) ys
  next_item xs ys i x e h is = ap (drop i) (sym e) ∙ drop_more xs i x h ∙ ap₂ (λ y zs. y ∷ zs) (sym is) (ap (drop (i + 1)) e)

  pub no_more : (xs ys : List A) (i : ℕ) → xs ≡ ys → length xs ≤ i → drop i ys ≡ []
  no_more xs ys i e h = ap (drop i) (sym e) ∙ drop_all i xs h

  pub grown : (whole done next here rest : List A) → whole ≡ done ++ (here ++ rest) → next ≡ done ++ here → whole ≡ next ++ rest
  grown whole done next here rest e f = e ∙ sym (append_assoc done here rest) ∙ ap (λ xs. xs ++ rest) (sym f)

module _ {A B : Type 0} (f : A → B) where
  pub map-push : (xs ys : List A) (a : A) → ys ≡ xs ++ a ∷ [] → map f ys ≡ map f xs ++ f a ∷ []
  map-push xs ys a e = ap (map f) e ∙ map-append f xs (a ∷ [])

  pub map-push_two : (xs ys zs : List A) (a b : A) → ys ≡ xs ++ a ∷ [] → zs ≡ ys ++ b ∷ [] → map f zs ≡ map f xs ++ f a ∷ f b ∷ []
  map-push_two xs ys zs a b e g = map-push ys zs b g ∙ ap (λ ts. ts ++ f b ∷ []) (map-push xs ys a e) ∙ append_assoc (map f xs) (f a ∷ []) (f b ∷ [])

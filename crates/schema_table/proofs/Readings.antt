-- What is kept of a list by number, when one more comes to its end.
use Rattle.std.proofs.Common.{◌≡◌, ◌<◌, ◌+◌, ◌&&◌, ℕ, zero, suc, List, [], ◌∷◌, ◌++◌, Bool, true, false, cond, Some, String, Global, length, refl, sym, subst, ap, ◌∙◌, arith}
use Rattle.std.proofs.lemmas.Bool.{and_parts}
use Rattle.std.proofs.lemmas.List.{length-append}
use Rattle.std.specs.BTreeMap.{BTreeMap}
use Rattle.std.specs.List.{slice_get}
use Rattle.definitions.specs.Values.{Text, same_text}
use Rattle.lemmas.proofs.Texts.{same_text_is}
use Rattle.schema_table.specs.PairNumbers.{pair_number}

slice_get-left : {A : Type 0} (xs ys : List A) (i : ℕ) → i < length xs → slice_get (xs ++ ys) i ≡ slice_get xs i
slice_get-left [] ys i h = absurd (omega arith)
slice_get-left (x ∷ xs) ys zero h = refl
slice_get-left (x ∷ xs) ys (suc i) h = slice_get-left xs ys i (omega (arith, h))

slice_get-last : {A : Type 0} (xs : List A) (y : A) → slice_get (xs ++ y ∷ []) (length xs) ≡ Some y
slice_get-last [] y = refl
slice_get-last (x ∷ xs) y = slice_get-last xs y

abbrev Numbers : Type 0
Numbers = BTreeMap (String Global) (BTreeMap (String Global) ℕ)

abbrev pub AreWithin : {A : Type 0} → Numbers → List A → Type 0
AreWithin numbers xs = (u t : Text) (n : ℕ) → pair_number numbers u t ≡ Some n → n < length xs

-- of each pair something is said of what stands at its number
abbrev pub AreSound : {A : Type 0} → (Text → Text → A → Type 0) → Numbers → List A → Type 0
AreSound {A} Says numbers xs = (u t : Text) (n : ℕ) (x : A) → pair_number numbers u t ≡ Some n → slice_get xs n ≡ Some x → Says u t x

-- the number after the last goes to one pair
abbrev pub IsNumbered : {A : Type 0} → Numbers → Numbers → Text → Text → List A → Type 0
IsNumbered old new uri text xs = (u t : Text) → pair_number new u t ≡ cond (same_text u uri && same_text t text) (Some (length xs)) (pair_number old u t)

module _ {A : Type 0} (old new : Numbers) (uri text : Text) (xs : List A) (y : A) (within : AreWithin old xs) (numbered : IsNumbered old new uri text xs) where
  longer : length (xs ++ y ∷ []) ≡ length xs + 1
  longer = length-append xs (y ∷ [])

  within-by : (u t : Text) (n : ℕ) (b : Bool) → cond b (Some (length xs)) (pair_number old u t) ≡ Some n → n < length (xs ++ y ∷ [])
  within-by u t n true e = let last : length xs ≡ n = cc in omega (arith, last, longer)
  within-by u t n false e = omega (arith, within u t n e, longer)

  pub still-within : AreWithin new (xs ++ y ∷ [])
  still-within u t n e = within-by u t n (same_text u uri && same_text t text) (sym (numbered u t) ∙ e)

module _ {A : Type 0} (Says : Text → Text → A → Type 0) (old new : Numbers) (uri text : Text) (xs : List A) (y : A) (within : AreWithin old xs)
    (numbered : IsNumbered old new uri text xs) (sound : AreSound Says old xs) (says : Says uri text y) where
  sound-by : (u t : Text) (n : ℕ) (x : A) (b : Bool) → (same_text u uri && same_text t text) ≡ b → cond b (Some (length xs)) (pair_number old u t) ≡ Some n
      → slice_get (xs ++ y ∷ []) n ≡ Some x → Says u t x
  sound-by u t n x true here e at =
      let last : length xs ≡ n = cc in
      let is : Some y ≡ Some x = sym (slice_get-last xs y) ∙ ap (slice_get (xs ++ y ∷ [])) last ∙ at in
      let same : y ≡ x = cc in
      let parts = and_parts (same_text u uri) (same_text t text) here in
      subst (λ v. Says u t v) same (subst (λ v. Says u v y) (sym (same_text_is t text parts.1)) (subst (λ v. Says v text y) (sym (same_text_is u uri parts.0)) says))
  sound-by u t n x false here e at = sound u t n x e (sym (slice_get-left xs (y ∷ []) n (within u t n e)) ∙ at)

  pub still-sound : AreSound Says new (xs ++ y ∷ [])
  still-sound u t n x e at = sound-by u t n x (same_text u uri && same_text t text) refl (sym (numbered u t) ∙ e) at

-- The names that were not seen before.
use Rattle.std.proofs.Common.{◌≡◌, List, [], ◌∷◌, Bool, true, false, not, ◌&&◌, cond, filter, refl, sym, ap, ap₂, ◌∙◌, subst}
use Rattle.std.proofs.lemmas.Slice.Eq.{bytes_eq-Decides}
use Rattle.std.proofs.lemmas.List.Elements.{filter_agree}
use Rattle.definitions.specs.Values.{Text, same_text}
use Rattle.definitions.specs.Evaluated.{once}

by_two : {X : Type 0} (f : X → Bool) (b : Bool) (x : X) (ys : List X) → filter f (cond b (x ∷ ys) ys) ≡ cond (f x && b) (x ∷ filter f ys) (filter f ys)
by_two f true x ys = by_one (f x) x (filter f ys)
  where
    by_one : {X : Type 0} (b : Bool) (x : X) (ys : List X) → cond b (x ∷ ys) ys ≡ cond (b && true) (x ∷ ys) ys
    by_one true x ys = refl
    by_one false x ys = refl
by_two f false x ys = by_none (f x) x (filter f ys)
  where
    by_none : {X : Type 0} (b : Bool) (x : X) (ys : List X) → ys ≡ cond (b && false) (x ∷ ys) ys
    by_none true x ys = refl
    by_none false x ys = refl

filter-filter : {X : Type 0} (f g : X → Bool) (xs : List X) → filter f (filter g xs) ≡ filter (λ x. f x && g x) xs
filter-filter f g [] = refl
filter-filter f g (x ∷ xs) = by_two f (g x) x (filter g xs) ∙ ap (λ ys. cond (f x && g x) (x ∷ ys) ys) (filter-filter f g xs)

abbrev pub unseen : (Text → Bool) → List Text → List Text
unseen seen ns = filter (λ m. not (seen m)) (once ns)

both_new : (same old : Bool) → (not old && not same) ≡ not (cond same true old)
both_new true true = refl
both_new true false = refl
both_new false true = refl
both_new false false = refl

pub unseen-new : (seen more : Text → Bool) (n : Text) (ns : List Text) → ((m : Text) → more m ≡ cond (same_text n m) true (seen m)) → seen n ≡ false
    → unseen seen (n ∷ ns) ≡ n ∷ unseen more ns
unseen-new seen more n ns e new =
    ap (λ b. cond (not b) (n ∷ filter (λ m. not (seen m)) (filter (λ m. not (same_text n m)) (once ns))) (filter (λ m. not (seen m)) (filter (λ m. not (same_text n m)) (once ns)))) new
    ∙ ap (λ ys. n ∷ ys) (filter-filter (λ m. not (seen m)) (λ m. not (same_text n m)) (once ns)
    ∙ filter_agree _ (λ m. not (more m)) (λ m. both_new (same_text n m) (seen m) ∙ ap not (sym (e m))) (once ns))

stays : (same old : Bool) → (same ≡ true → old ≡ true) → (not old && not same) ≡ not old
stays true true h = refl
stays true false h = let c : false ≡ true = h refl in cc
stays false true h = refl
stays false false h = refl

same-stays : (same old : Bool) → (same ≡ true → old ≡ true) → cond same true old ≡ old
same-stays true old h = sym (h refl)
same-stays false old h = refl

pub unseen-old : (seen more : Text → Bool) (n : Text) (ns : List Text) → ((m : Text) → more m ≡ cond (same_text n m) true (seen m)) → seen n ≡ true
    → unseen seen (n ∷ ns) ≡ unseen more ns
unseen-old seen more n ns e old =
    let known = λ (m : Text) (h : same_text n m ≡ true). subst (λ (t : Text). seen t ≡ true) ((bytes_eq-Decides n m).0 h) old in
    ap (λ b. cond (not b) (n ∷ filter (λ m. not (seen m)) (filter (λ m. not (same_text n m)) (once ns))) (filter (λ m. not (seen m)) (filter (λ m. not (same_text n m)) (once ns)))) old
    ∙ filter-filter (λ m. not (seen m)) (λ m. not (same_text n m)) (once ns)
    ∙ filter_agree _ (λ m. not (more m))
    (λ m. stays (same_text n m) (seen m) (known m) ∙ ap not (sym (e m ∙ same-stays (same_text n m) (seen m) (known m)))) (once ns)

filter-all : {X : Type 0} (f : X → Bool) → ((x : X) → f x ≡ true) → (xs : List X) → filter f xs ≡ xs
filter-all f all [] = refl
filter-all f all (x ∷ xs) = ap₂ (λ b ys. cond b (x ∷ ys) ys) (all x) (filter-all f all xs)

pub unseen-first : (seen : Text → Bool) → ((m : Text) → seen m ≡ false) → (ns : List Text) → unseen seen ns ≡ once ns
unseen-first seen none ns = filter-all (λ m. not (seen m)) (λ m. ap not (none m)) (once ns)

-- Parts of lists, and images of lists: of a part, with one element more, and what a test finds among them.
use Rattle.std.proofs.Common.{◌≡◌, ◌≤◌, ◌<◌, ◌+◌, ◌-◌, ℕ, zero, suc, List, [], ◌∷◌, ◌++◌, Bool, true, false, cond, ◌||◌, Some, option_map, find, map, length, get_or, take, drop, refl, sym, ap, ap₂, ◌∙◌, arith, append-nil}
use Rattle.std.proofs.lemmas.Grind.{flat_map-append}
use Rattle.std.proofs.lemmas.List.{drop-take, take-take, take_more, map-append, drop-map, drop_more}
use Rattle.std.specs.Prelude.{slice_range}
use Rattle.std.specs.List.{flat_map, insert, list_any}
use Rattle.lemmas.proofs.Options.{option_map-twice}

-- ---- a range
pub range_is : {X : Type 0} (xs : List X) (a b : ℕ) → a ≤ b → slice_range xs a b ≡ drop a (take b xs)
range_is xs a b le =
    let sum : a + (b - a) ≡ b = omega arith in
    sym (drop-take a (b - a) xs) ∙ ap (λ n. drop a (take n xs)) sum

pub range_same : {X : Type 0} (xs ys : List X) (n a b : ℕ) → take n xs ≡ take n ys → a ≤ b → b ≤ n → slice_range xs a b ≡ slice_range ys a b
range_same xs ys n a b same le within =
    range_is xs a b le ∙ ap (drop a) (sym (take-take b n xs within) ∙ ap (take b) same ∙ take-take b n ys within) ∙ sym (range_is ys a b le)

-- ---- images
pub map-take_more : {X Y : Type 0} (f : X → Y) (xs : List X) (i : ℕ) (x : X) → i < length xs → x ≡ get_or xs i x → map f (take (i + 1) xs) ≡ map f (take i xs) ++ f x ∷ []
map-take_more f xs i x h is = ap (map f) (take_more xs i x h) ∙ map-append f (take i xs) (get_or xs i x ∷ []) ∙ ap (λ y. map f (take i xs) ++ f y ∷ []) (sym is)

pub drop_more-map : {X Y : Type 0} (f : X → Y) (xs : List X) (i : ℕ) (x : X) → i < length xs → x ≡ get_or xs i x → drop i (map f xs) ≡ f x ∷ drop (i + 1) (map f xs)
drop_more-map f xs i x h is =
    drop-map f i xs ∙ ap (map f) (drop_more xs i x h) ∙ ap₂ (λ y ys. f y ∷ ys) (sym is) (sym (drop-map f (i + 1) xs))

pub map-insert : {X Y : Type 0} (f : X → Y) (xs : List X) (at : ℕ) (x : X) → map f (insert xs at x) ≡ insert (map f xs) at (f x)
map-insert f xs zero x = refl
map-insert f [] (suc at) x = refl
map-insert f (y ∷ ys) (suc at) x = ap (λ zs. f y ∷ zs) (map-insert f ys at x)

pub flat_map-push : {X Y : Type 0} (f : X → List Y) (xs : List X) (x : X) → flat_map f (xs ++ x ∷ []) ≡ flat_map f xs ++ f x
flat_map-push f xs x = flat_map-append f xs (x ∷ []) ∙ ap (λ ys. flat_map f xs ++ ys) (append-nil (f x))

pub list_any-map : {X Y : Type 0} (p : Y → Bool) (f : X → Y) (xs : List X) → list_any p (map f xs) ≡ list_any (λ x. p (f x)) xs
list_any-map p f [] = refl
list_any-map p f (x ∷ xs) = ap (λ b. p (f x) || b) (list_any-map p f xs)

find_at : {X Y : Type 0} (p : Y → Bool) (f : X → Y) (x : X) (xs : List X) (b : Bool) → find p (map f xs) ≡ option_map f (find (λ z. p (f z)) xs)
    → cond b (Some (f x)) (find p (map f xs)) ≡ option_map f (cond b (Some x) (find (λ z. p (f z)) xs))
find_at p f x xs true e = refl
find_at p f x xs false e = e

pub find-map : {X Y : Type 0} (p : Y → Bool) (f : X → Y) (xs : List X) → find p (map f xs) ≡ option_map f (find (λ x. p (f x)) xs)
find-map p f [] = refl
find-map p f (x ∷ xs) = find_at p f x xs (p (f x)) (find-map p f xs)

-- a part of what is found
pub option_map-find-map : {X Y Z : Type 0} (g : Y → Z) (p : Y → Bool) (f : X → Y) (xs : List X) → option_map g (find p (map f xs)) ≡ option_map (λ x. g (f x)) (find (λ x. p (f x)) xs)
option_map-find-map g p f xs = ap (option_map g) (find-map p f xs) ∙ sym (option_map-twice g f (find (λ x. p (f x)) xs))

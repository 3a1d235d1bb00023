-- What stands in a list, by recursion.
use Rattle.std.proofs.Common.{◌≡◌, ◌<◌, ◌≤◌, ◌+◌, ◌⊎◌, ℕ, zero, suc, List, [], ◌∷◌, ◌++◌, map, length, Bool, true, false, cond, Some, refl, sym, ap, ◌∙◌, arith, inl, inr, is_some}
use Rattle.std.proofs.lemmas.Bool.{and_parts, or_right}
use Rattle.std.specs.List.{Contains, flat_map, filter, find, enumerate_from, list_any, list_all, zip}

abbrev pub IsIn : {A : Type 0} → A → List A → Type 0
IsIn x [] = ⊥
IsIn x (y ∷ ys) = (y ≡ x) ⊎ IsIn x ys

pub in_from_contains : {A : Type 0} (xs : List A) (x : A) → Contains xs x → IsIn x xs
in_from_contains [] x (k, l, e) = absurd (omega arith)
in_from_contains (y ∷ ys) x (zero, l, e) = inl e
in_from_contains (y ∷ ys) x (suc k, l, e) = inr (in_from_contains ys x (k, omega arith, e))

pub contains_from_in : {A : Type 0} (xs : List A) (x : A) → IsIn x xs → Contains xs x
contains_from_in [] x h = absurd h
contains_from_in (y ∷ ys) x (inl e) = (zero, omega arith, e)
contains_from_in (y ∷ ys) x (inr h) = let c = contains_from_in ys x h in (suc c.0, omega (arith, c.1), c.2)

-- ---- joined, flattened, mapped, filtered
pub in_append : {A : Type 0} (xs ys : List A) (x : A) → IsIn x (xs ++ ys) → IsIn x xs ⊎ IsIn x ys
in_append [] ys x h = inr h
in_append (y ∷ xs) ys x (inl e) = inl (inl e)
in_append (y ∷ xs) ys x (inr h) = elim (in_append xs ys x h) [ inl p ↦ inl (inr p) | inr q ↦ inr q ]

pub in_left : {A : Type 0} (xs ys : List A) (x : A) → IsIn x xs → IsIn x (xs ++ ys)
in_left [] ys x h = absurd h
in_left (y ∷ xs) ys x (inl e) = inl e
in_left (y ∷ xs) ys x (inr h) = inr (in_left xs ys x h)

pub in_right : {A : Type 0} (xs ys : List A) (x : A) → IsIn x ys → IsIn x (xs ++ ys)
in_right [] ys x h = h
in_right (y ∷ xs) ys x h = inr (in_right xs ys x h)

pub in_flat_map : {A B : Type 0} (f : A → List B) (xs : List A) (y : B) → IsIn y (flat_map f xs) → (x : A) × IsIn x xs × IsIn y (f x)
in_flat_map f [] y h = absurd h
in_flat_map f (x ∷ xs) y h = elim (in_append (f x) (flat_map f xs) y h) [
  | inl p ↦ (x, inl refl, p)
  | inr q ↦ let r = in_flat_map f xs y q in (r.0, inr r.1, r.2)
]

pub into_flat_map : {A B : Type 0} (f : A → List B) (xs : List A) (x : A) (y : B) → IsIn x xs → IsIn y (f x) → IsIn y (flat_map f xs)
into_flat_map f [] x y h k = absurd h
into_flat_map f (z ∷ xs) x y (inl e) k = in_left (f z) (flat_map f xs) y (rw e k)
into_flat_map f (z ∷ xs) x y (inr h) k = in_right (f z) (flat_map f xs) y (into_flat_map f xs x y h k)

pub in_map : {A B : Type 0} (f : A → B) (xs : List A) (y : B) → IsIn y (map f xs) → (x : A) × IsIn x xs × (f x ≡ y)
in_map f [] y h = absurd h
in_map f (x ∷ xs) y (inl e) = (x, inl refl, e)
in_map f (x ∷ xs) y (inr h) = let r = in_map f xs y h in (r.0, inr r.1, r.2)

pub into_map : {A B : Type 0} (f : A → B) (xs : List A) (x : A) → IsIn x xs → IsIn (f x) (map f xs)
into_map f [] x h = absurd h
into_map f (y ∷ xs) x (inl e) = inl (ap f e)
into_map f (y ∷ xs) x (inr h) = inr (into_map f xs x h)

pub into_filter : {A : Type 0} (p : A → Bool) (xs : List A) (x : A) → IsIn x xs → p x ≡ true → IsIn x (filter p xs)
into_filter p [] x h passes = absurd h
into_filter {A} p (y ∷ xs) x (inl e) passes = rw (e, passes) (inl refl)
into_filter {A} p (y ∷ xs) x (inr h) passes = either (p y) (into_filter p xs x h passes)
  where
    either : (b : Bool) → IsIn x (filter p xs) → IsIn x (cond b (y ∷ filter p xs) (filter p xs))
    either true k = inr k
    either false k = k

-- ---- the first that passes
pub finds_only : {A : Type 0} (p : A → Bool) (xs : List A) (x : A) → IsIn x xs → p x ≡ true → ((y : A) → IsIn y xs → p y ≡ true → y ≡ x) → find p xs ≡ Some x
finds_only p [] x h passes only = absurd h
finds_only {A} p (y ∷ xs) x h passes only = go (p y) refl h (λ k. finds_only p xs x k passes (λ z l. only z (inr l)))
  where
    go : (b : Bool) → p y ≡ b → IsIn x (y ∷ xs) → (IsIn x xs → find p xs ≡ Some x) → cond b (Some y) (find p xs) ≡ Some x
    go true e k later = ap (λ z. Some z) (only y (inl refl) e)
    go false e (inl k) later = absurd (let other : p x ≡ false = rw (← k) e in cc)
    go false e (inr k) later = later k

pub found_somewhere : {A : Type 0} (p : A → Bool) (xs : List A) (x : A) → IsIn x xs → p x ≡ true → is_some (find p xs) ≡ true
found_somewhere p [] x i e = absurd i
found_somewhere {A} p (y ∷ ys) x (inl same) e = rw (same, e) refl
found_somewhere {A} p (y ∷ ys) x (inr i) e = by (p y) (found_somewhere p ys x i e)
  where
    by : (b : Bool) → is_some (find p ys) ≡ true → is_some (cond b (Some y) (find p ys)) ≡ true
    by true h = refl
    by false h = h

pub found_in : {A : Type 0} (p : A → Bool) (xs : List A) (x : A) → find p xs ≡ Some x → IsIn x xs
found_in p [] x e = absurd (cc)
found_in {A} p (y ∷ ys) x e = by (p y) e (found_in p ys x)
  where
    by : (b : Bool) → cond b (Some y) (find p ys) ≡ Some x → (find p ys ≡ Some x → IsIn x ys) → IsIn x (y ∷ ys)
    by true f later = inl cc
    by false f later = inr (later f)

pub found_passes : {A : Type 0} (p : A → Bool) (xs : List A) (x : A) → find p xs ≡ Some x → p x ≡ true
found_passes p [] x e = absurd (cc)
found_passes {A} p (y ∷ ys) x e = by (p y) refl e (found_passes p ys x)
  where
    by : (b : Bool) → p y ≡ b → cond b (Some y) (find p ys) ≡ Some x → (find p ys ≡ Some x → p x ≡ true) → p x ≡ true
    by true q f later = let same : y ≡ x = cc in rw (← same) q
    by false q f later = later f

-- ---- elements with their places
pub numbered_within : {A : Type 0} (n : ℕ) (xs : List A) (i : ℕ) (x : A) → IsIn (i, x) (enumerate_from n xs) → (n ≤ i) × (i < n + length xs)
numbered_within n [] i x h = absurd h
numbered_within n (y ∷ xs) i x (inl e) = let same : n ≡ i = ap (λ p. p.0) e in (omega arith, omega arith)
numbered_within n (y ∷ xs) i x (inr h) = let r = numbered_within (n + 1) xs i x h in (omega arith, omega arith)

pub numbered_once : {A : Type 0} (n : ℕ) (xs : List A) (i : ℕ) (x y : A) → IsIn (i, x) (enumerate_from n xs) → IsIn (i, y) (enumerate_from n xs) → x ≡ y
numbered_once n [] i x y h k = absurd h
numbered_once n (z ∷ xs) i x y (inl e) (inl f) = sym (ap (λ p. p.1) e) ∙ ap (λ p. p.1) f
numbered_once n (z ∷ xs) i x y (inl e) (inr k) = let same : n ≡ i = ap (λ p. p.0) e in absurd (omega (arith, numbered_within (n + 1) xs i y k))
numbered_once n (z ∷ xs) i x y (inr h) (inl f) = let same : n ≡ i = ap (λ p. p.0) f in absurd (omega (arith, numbered_within (n + 1) xs i x h))
numbered_once n (z ∷ xs) i x y (inr h) (inr k) = numbered_once (n + 1) xs i x y h k

pub numbered_in : {A : Type 0} (n : ℕ) (xs : List A) (i : ℕ) (x : A) → IsIn (i, x) (enumerate_from n xs) → IsIn x xs
numbered_in n [] i x h = absurd h
numbered_in n (y ∷ xs) i x (inl e) = inl (ap (λ p. p.1) e)
numbered_in n (y ∷ xs) i x (inr h) = inr (numbered_in (n + 1) xs i x h)

-- ---- no repeat
pub any_of_in : {A : Type 0} (p : A → Bool) (xs : List A) (x : A) → IsIn x xs → p x ≡ true → list_any p xs ≡ true
any_of_in p [] x h passes = absurd h
any_of_in p (y ∷ xs) x (inl e) passes = let here : p y ≡ true = rw e passes in rw here refl
any_of_in p (y ∷ xs) x (inr h) passes = or_right (p y) (list_any p xs) (any_of_in p xs x h passes)

pub from_filter : {A : Type 0} (p : A → Bool) (xs : List A) (x : A) → IsIn x (filter p xs) → IsIn x xs
from_filter p [] x h = absurd h
from_filter {A} p (y ∷ xs) x h = either (p y) h (from_filter p xs x)
  where
    either : (b : Bool) → IsIn x (cond b (y ∷ filter p xs) (filter p xs)) → (IsIn x (filter p xs) → IsIn x xs) → IsIn x (y ∷ xs)
    either true (inl e) later = inl e
    either true (inr k) later = inr (later k)
    either false k later = inr (later k)

pub zipped_first : {A B : Type 0} (xs : List A) (ys : List B) (e : A × B) → IsIn e (zip xs ys) → IsIn e.0 xs
zipped_first [] ys e h = absurd h
zipped_first (x ∷ xs) [] e h = absurd h
zipped_first (x ∷ xs) (y ∷ ys) e (inl f) = inl (ap (λ p. p.0) f)
zipped_first (x ∷ xs) (y ∷ ys) e (inr h) = inr (zipped_first xs ys e h)

pub all_pass_in : {A : Type 0} (p : A → Bool) (xs : List A) (x : A) → list_all p xs ≡ true → IsIn x xs → p x ≡ true
all_pass_in p [] x h i = absurd i
all_pass_in p (y ∷ xs) x h (inl e) = rw (← e) (and_parts (p y) (list_all p xs) h).0
all_pass_in p (y ∷ xs) x h (inr i) = all_pass_in p xs x (and_parts (p y) (list_all p xs) h).1 i

pub filter_passes : {A : Type 0} (p : A → Bool) (xs : List A) (x : A) → IsIn x (filter p xs) → p x ≡ true
filter_passes p [] x h = absurd h
filter_passes {A} p (y ∷ ys) x h = by (p y) refl h (filter_passes p ys x)
  where
    by : (b : Bool) → p y ≡ b → IsIn x (cond b (y ∷ filter p ys) (filter p ys)) → (IsIn x (filter p ys) → p x ≡ true) → p x ≡ true
    by true e (inl f) later = rw (← f) e
    by true e (inr k) later = later k
    by false e k later = later k

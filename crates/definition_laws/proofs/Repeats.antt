-- Lists in which nothing is alike: joined, cut out of one another, and with one list a member.
use Rattle.std.proofs.Common.{◌≡◌, Bool, true, false, cond, List, [], ◌∷◌, ◌++◌, Contains, filter, flat_map, sym, refl, ap, ◌∙◌, subst, inl, inr, true≢false}
use Rattle.std.proofs.lemmas.Bool.{or_parts, or_from, false_from_ne_true}
use Rattle.std.proofs.lemmas.List.Folds.{list_any-append}
use Rattle.std.specs.List.{list_any}
use Rattle.definitions.specs.Lists.{has_repeat}
use Rattle.definition_laws.proofs.Membership.{nothing_in, is_first, is_later, first_or_later, any_at, any_where, from_filter}
use Rattle.definition_laws.proofs.Occurrences.{in_from_contains, contains_from_in, into_flat_map, in_flat_map as out_of_flat_map}

-- ---- tests that nothing passes
pub none_of : {X : Type 0} (p : X → Bool) (x : X) (xs : List X) → list_any p xs ≡ false → Contains xs x → p x ≡ false
none_of p x xs none c = false_from_ne_true (p x) (λ e. true≢false (sym (any_at p x xs c e) ∙ none))

pub any_none : {X : Type 0} (p : X → Bool) (xs : List X) → ((x : X) → Contains xs x → p x ≡ false) → list_any p xs ≡ false
any_none {X} p xs h = false_from_ne_true (list_any p xs) (λ e.
    let found : (x : X) × (Contains xs x × (p x ≡ true)) = any_where p xs e in
    true≢false (sym found.1.1 ∙ h found.0 found.1.0))

-- ---- lists of lists
pub in_flat_map : {X Y : Type 0} (f : X → List Y) (x : X) (y : Y) (xs : List X) → Contains xs x → Contains (f x) y → Contains (flat_map f xs) y
in_flat_map f x y xs c d = contains_from_in (flat_map f xs) y (into_flat_map f xs x y (in_from_contains xs x c) (in_from_contains (f x) y d))

pub from_flat_map : {X Y : Type 0} (f : X → List Y) (y : Y) (xs : List X) → Contains (flat_map f xs) y → (x : X) × (Contains xs x × Contains (f x) y)
from_flat_map f y xs c =
    let r = out_of_flat_map f xs y (in_from_contains (flat_map f xs) y c) in
    (r.0, (contains_from_in xs r.0 r.1, contains_from_in (f r.0) y r.2))

-- ---- lists without repeats
abbrev pub AreApart : {Y : Type 0} → (Y → Y → Bool) → List Y → List Y → Type 0
AreApart {Y} alike xs ys = (x y : Y) → Contains xs x → Contains ys y → alike x y ≡ false

pub joined : {Y : Type 0} (alike : Y → Y → Bool) (xs ys : List Y) → has_repeat alike xs ≡ false → has_repeat alike ys ≡ false → AreApart alike xs ys
    → has_repeat alike (xs ++ ys) ≡ false
joined alike [] ys h k apart = k
joined alike (x ∷ xs) ys h k apart =
    let parts = or_parts (list_any (alike x) xs) (has_repeat alike xs) h in
    or_from (list_any (alike x) (xs ++ ys)) (has_repeat alike (xs ++ ys))
    (list_any-append (alike x) xs ys
    ∙ or_from (list_any (alike x) xs) (list_any (alike x) ys) parts.0 (any_none (alike x) ys (λ y c. apart x y (is_first x xs) c)))
    (joined alike xs ys parts.1 k (λ u y c d. apart u y (is_later x u xs c) d))

pub record IsCut {Y : Type 0} (alike : Y → Y → Bool) (xs ys : List Y) : Type 0 where
  pub before : has_repeat alike xs ≡ false
  pub behind : has_repeat alike ys ≡ false
  pub apart : AreApart alike xs ys

pub cut : {Y : Type 0} (alike : Y → Y → Bool) (xs ys : List Y) → has_repeat alike (xs ++ ys) ≡ false → IsCut alike xs ys
cut alike [] ys h = record { before = refl; behind = h; apart = λ x y c d. absurd (nothing_in x c) }
cut alike (x ∷ xs) ys h =
    let parts = or_parts (list_any (alike x) (xs ++ ys)) (has_repeat alike (xs ++ ys)) h in
    let here = or_parts (list_any (alike x) xs) (list_any (alike x) ys) (sym (list_any-append (alike x) xs ys) ∙ parts.0) in
    let rest = cut alike xs ys parts.1 in
    record {
      before = or_from (list_any (alike x) xs) (has_repeat alike xs) here.0 rest.before;
      behind = rest.behind;
      apart = λ u y c d. elim (first_or_later x u xs c) [
        | inl same ↦ ap (λ z. alike z y) (sym same) ∙ none_of (alike x) y ys here.1 d
        | inr later ↦ rest.apart u y later d
      ];
    }

filtered_at : {X Y : Type 0} (alike : Y → Y → Bool) (f : X → List Y) (p : X → Bool) (x : X) (xs : List X) (b : Bool)
    → IsCut alike (f x) (flat_map f xs) → has_repeat alike (flat_map f (filter p xs)) ≡ false
    → has_repeat alike (flat_map f (cond b (x ∷ filter p xs) (filter p xs))) ≡ false
filtered_at {X} {Y} alike f p x xs true parts h =
    joined alike (f x) (flat_map f (filter p xs)) parts.before h (λ u y c d.
    let found : (z : X) × (Contains (filter p xs) z × Contains (f z) y) = from_flat_map f y (filter p xs) d in
    parts.apart u y c (in_flat_map f found.0 y xs (from_filter p found.0 xs found.1.0).0 found.1.1))
filtered_at alike f p x xs false parts h = h

-- what is kept of a list has no repeat that the list doesn't have
pub filtered : {X Y : Type 0} (alike : Y → Y → Bool) (f : X → List Y) (p : X → Bool) (xs : List X) → has_repeat alike (flat_map f xs) ≡ false
    → has_repeat alike (flat_map f (filter p xs)) ≡ false
filtered alike f p [] h = refl
filtered alike f p (x ∷ xs) h =
    let parts = cut alike (f x) (flat_map f xs) h in
    filtered_at alike f p x xs (p x) parts (filtered alike f p xs parts.behind)

-- where no name stands twice, one element at most has it
pub one_with : {X Y : Type 0} (alike : Y → Y → Bool) (f : X → List Y) (xs : List X) → has_repeat alike (flat_map f xs) ≡ false
    → (x y : X) (u v : Y) → Contains xs x → Contains xs y → Contains (f x) u → Contains (f y) v → alike u v ≡ true → alike v u ≡ true → x ≡ y
one_with alike f [] h x y u v c d cu dv e back = absurd (nothing_in x c)
one_with alike f (z ∷ zs) h x y u v c d cu dv e back =
    let parts = cut alike (f z) (flat_map f zs) h in
    elim (first_or_later z x zs c) [
      | inl here ↦ elim (first_or_later z y zs d) [
        | inl there ↦ sym here ∙ there
        | inr later ↦ absurd (true≢false (sym e ∙ parts.apart u v (subst (λ w. Contains (f w) u) (sym here) cu) (in_flat_map f y v zs later dv)))
      ]
      | inr later ↦ elim (first_or_later z y zs d) [
        | inl there ↦ absurd (true≢false (sym back ∙ parts.apart v u (subst (λ w. Contains (f w) v) (sym there) dv) (in_flat_map f x u zs later cu)))
        | inr both ↦ one_with alike f zs parts.behind x y u v later both cu dv e back
      ]
    ]

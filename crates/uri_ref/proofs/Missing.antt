-- Texts that miss some bytes, and where they are cut.
use Rattle.std.proofs.Common.{◌≡◌, ℕ, ◌==◌, [], ◌∷◌, ◌++◌, Bool, true, false, true≢false, not, ◌||◌, cond, Option, Some, None, nat_eq, take, drop, codes, inl, inr, refl, sym, ap, ◌∙◌, take-append-drop, eq-eqb}
use Rattle.std.proofs.lemmas.Bool.{and_from, or_from, or_parts, eqb-true, and_parts, not-true}
use Rattle.std.proofs.lemmas.Bool.Decides.{eqb_tells}
use Rattle.std.proofs.lemmas.List.Folds.{list_any-append}
use Rattle.std.specs.List.{list_all, list_any}
use Rattle.definitions.specs.Values.{Text, same_text}
use Rattle.definitions.specs.Uris.{begins, is_free_of, is_scheme, is_scheme_byte, led_by, ended_by, option_all}
use Rattle.definitions.specs.Lists.{cut_at, split_before}
use Rattle.definitions.specs.Bytes.{is_letter}

abbrev pub one_of : Text → ℕ → Bool
one_of signs c = list_any (λ d. d == c) signs

abbrev pub Misses : (ℕ → Bool) → Text → Type 0
Misses p t = list_any p t ≡ false

pub misses_from : (signs t : Text) → is_free_of signs t ≡ true → Misses (one_of signs) t
misses_from signs t h = not-true (list_any (one_of signs) t) h

pub free_from : (signs t : Text) → Misses (one_of signs) t → is_free_of signs t ≡ true
free_from signs t h = ap not h

pub joined_misses : (p : ℕ → Bool) (xs ys : Text) → Misses p xs → Misses p ys → Misses p (xs ++ ys)
joined_misses p xs ys h k = list_any-append p xs ys ∙ or_from (list_any p xs) (list_any p ys) h k

pub halves_miss : (p : ℕ → Bool) (xs ys : Text) → Misses p (xs ++ ys) → Misses p xs × Misses p ys
halves_miss p xs ys h = or_parts (list_any p xs) (list_any p ys) (sym (list_any-append p xs ys) ∙ h)

pub rest_misses : (p : ℕ → Bool) (n : ℕ) (t : Text) → Misses p t → Misses p (drop n t)
rest_misses p n t h = (halves_miss p (take n t) (drop n t) (ap (list_any p) (take-append-drop n t) ∙ h)).1

pub fewer_missed : (p q : ℕ → Bool) → ((x : ℕ) → p x ≡ false → q x ≡ false) → (t : Text) → Misses p t → Misses q t
fewer_missed p q w [] h = refl
fewer_missed p q w (x ∷ xs) h =
    let parts = or_parts (p x) (list_any p xs) h in
    or_from (q x) (list_any q xs) (w x parts.0) (fewer_missed p q w xs parts.1)

-- ---- what may be absent
pub of_option : (f : Text → Bool) (o : Option Text) → option_all f o ≡ true → (t : Text) → o ≡ Some t → f t ≡ true
of_option f None h t e = cc
of_option f (Some s) h t e = let same : s ≡ t = cc in ap f (sym same) ∙ h

pub led_misses : (p : ℕ → Bool) (sign : Text) (o : Option Text) → Misses p sign → ((t : Text) → o ≡ Some t → Misses p t) → Misses p (led_by sign o)
led_misses p sign None h k = refl
led_misses p sign (Some t) h k = joined_misses p sign t h (k t refl)

pub ended_misses : (p : ℕ → Bool) (sign : Text) (o : Option Text) → Misses p sign → ((t : Text) → o ≡ Some t → Misses p t) → Misses p (ended_by o sign)
ended_misses p sign None h k = refl
ended_misses p sign (Some t) h k = joined_misses p t sign (k t refl) h

-- ---- one sign, and signs
-- a byte that a test tells from another is another
pub is_another : (f : ℕ → Bool) (a x : ℕ) → f a ≡ false → f x ≡ true → (x == a) ≡ false
is_another f a x ha hx = elim (eqb_tells x a) [ inl same ↦ absurd (true≢false (sym hx ∙ ap f same.1 ∙ ha)) | inr other ↦ other.0 ]

is_none_of : (signs : Text) (a x : ℕ) → one_of signs a ≡ true → one_of signs x ≡ false → (x == a) ≡ false
is_none_of signs a x ha hx = elim (eqb_tells x a) [ inl same ↦ absurd (true≢false (sym ha ∙ ap (one_of signs) (sym same.1) ∙ hx)) | inr other ↦ other.0 ]

pub one_missed : (signs : Text) (a : ℕ) (t : Text) → one_of signs a ≡ true → Misses (one_of signs) t → Misses (λ d. d == a) t
one_missed signs a t i h = fewer_missed (one_of signs) (λ d. d == a) (λ x. is_none_of signs a x i) t h

turned : (a x : ℕ) → (x == a) ≡ false → (a == x) ≡ false
turned a x e = elim (eqb_tells a x) [ inl same ↦ absurd (true≢false (sym (eq-eqb x a (sym same.1)) ∙ e)) | inr other ↦ other.0 ]

pub none_missed : (t : Text) → Misses (one_of []) t
none_missed [] = refl
none_missed (x ∷ xs) = none_missed xs

pub more_missed : (a : ℕ) (signs t : Text) → Misses (λ d. d == a) t → Misses (one_of signs) t → Misses (one_of (a ∷ signs)) t
more_missed a signs [] h k = refl
more_missed a signs (x ∷ xs) h k =
    let one = or_parts (x == a) (list_any (λ d. d == a) xs) h in
    let others = or_parts (one_of signs x) (list_any (one_of signs) xs) k in
    or_from (one_of (a ∷ signs) x) (list_any (one_of (a ∷ signs)) xs)
    (or_from (a == x) (one_of signs x) (turned a x one.0) others.0) (more_missed a signs xs one.1 others.1)

-- ---- a scheme misses what is no byte of a scheme
all_miss : (a : ℕ) (s : Text) → is_scheme_byte a ≡ false → list_all is_scheme_byte s ≡ true → Misses (λ d. d == a) s
all_miss a [] b h = refl
all_miss a (x ∷ xs) b h =
    let parts = and_parts (is_scheme_byte x) (list_all is_scheme_byte xs) h in
    or_from (x == a) (list_any (λ d. d == a) xs) (is_another is_scheme_byte a x b parts.0) (all_miss a xs b parts.1)

pub scheme_misses : (a : ℕ) (s : Text) → is_letter a ≡ false → is_scheme_byte a ≡ false → is_scheme s ≡ true → Misses (λ d. d == a) s
scheme_misses a [] l b h = cc
scheme_misses a (x ∷ xs) l b h =
    let parts = and_parts (is_letter x) (list_all is_scheme_byte xs) h in
    or_from (x == a) (list_any (λ d. d == a) xs) (is_another is_letter a x l parts.0) (all_miss a xs b parts.1)

-- ---- what stands before a cut misses the sign
cut_step : (c x : ℕ) (xs : Text) (b : Bool) (r : Text × Option Text) → (x == c) ≡ b → Misses (λ d. d == c) r.0
    → Misses (λ d. d == c) (cond {A = Text × Option Text} b ([], Some xs) (x ∷ r.0, r.1)).0
cut_step c x xs true r e h = refl
cut_step c x xs false r e h = or_from (x == c) (list_any (λ d. d == c) r.0) e h

pub cut_misses : (c : ℕ) (t : Text) → Misses (λ d. d == c) (cut_at (λ d. d == c) t).0
cut_misses c [] = refl
cut_misses c (x ∷ xs) = cut_step c x xs (x == c) (cut_at (λ d. d == c) xs) refl (cut_misses c xs)

before_step : (c x : ℕ) (xs : Text) (b : Bool) (r : Text × Text) → (x == c) ≡ b → Misses (λ d. d == c) r.0
    → Misses (λ d. d == c) (cond {A = Text × Text} b ([], x ∷ xs) (x ∷ r.0, r.1)).0
before_step c x xs true r e h = refl
before_step c x xs false r e h = or_from (x == c) (list_any (λ d. d == c) r.0) e h

pub before_misses : (c : ℕ) (t : Text) → Misses (λ d. d == c) (split_before (λ d. d == c) t).0
before_misses c [] = refl
before_misses c (x ∷ xs) = before_step c x xs (x == c) (split_before (λ d. d == c) xs) refl (before_misses c xs)

-- ---- empty, or led by a slash
abbrev pub is_rooted : Text → Bool
is_rooted [] = true
is_rooted (c ∷ cs) = 47 == c

pub rooted_from : (t : Text) → (same_text t [] || begins t (codes "/")) ≡ true → is_rooted t ≡ true
rooted_from [] h = refl
rooted_from (c ∷ cs) h = (and_parts (nat_eq 47 c) true h).0

pub rooted_text : (t : Text) → is_rooted t ≡ true → (same_text t [] || begins t (codes "/")) ≡ true
rooted_text [] h = refl
rooted_text (c ∷ cs) h = and_from (nat_eq 47 c) true h refl

rooted_step : (x : ℕ) (xs : Text) (b : Bool) (r : Text × Text) → (x == 47) ≡ b → is_rooted r.1 ≡ true
    → is_rooted (cond {A = Text × Text} b ([], x ∷ xs) (x ∷ r.0, r.1)).1 ≡ true
rooted_step x xs true r e h = eq-eqb 47 x (sym (eqb-true x 47 e))
rooted_step x xs false r e h = h

pub rest_is_rooted : (t : Text) → is_rooted (split_before (λ c. c == 47) t).1 ≡ true
rest_is_rooted [] = refl
rest_is_rooted (x ∷ xs) = rooted_step x xs (x == 47) (split_before (λ c. c == 47) xs) refl (rest_is_rooted xs)

-- ---- texts that are put together are cut there
pub cut_apart : (c : ℕ) (u : Text) (o : Option Text) → Misses (λ d. d == c) u → cut_at (λ d. d == c) (u ++ led_by (c ∷ []) o) ≡ (u, o)
cut_apart c [] None h = refl
cut_apart c [] (Some t) h = rw (eq-eqb c c refl) refl
cut_apart c (x ∷ xs) o h =
    let parts = or_parts (x == c) (list_any (λ d. d == c) xs) h in
    rw parts.0 (ap (λ (r : Text × Option Text). (x ∷ r.0, r.1)) (cut_apart c xs o parts.1))

pub before_apart : (u v : Text) → Misses (λ c. c == 47) u → is_rooted v ≡ true → split_before (λ c. c == 47) (u ++ v) ≡ (u, v)
before_apart [] [] h k = refl
before_apart [] (y ∷ v) h k = rw (eq-eqb y 47 (sym (eqb-true 47 y k))) refl
before_apart (x ∷ xs) v h k =
    let parts = or_parts (x == 47) (list_any (λ d. d == 47) xs) h in
    rw parts.0 (ap (λ (r : Text × Text). (x ∷ r.0, r.1)) (before_apart xs v parts.1 k))

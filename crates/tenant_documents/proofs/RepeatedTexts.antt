-- Texts that stand twice, and the least of them.
use Rattle.std.proofs.Common.{◌≡◌, ◌<◌, ◌+◌, ◌||◌, ℕ, zero, suc, not, arith, map, take, length, get_or, Bor, ◌⊎◌, Bool, true, false, cond, List, [], ◌∷◌, ◌++◌, Option, Some, None, Contains, sym, refl, ap, ◌∙◌, subst, inl, inr, true≢false}
use Rattle.std.proofs.lemmas.List.Folds.{list_any-append}
use Rattle.std.proofs.lemmas.List.Elements.{Contains-append_left, Contains-append_right, Contains-append_cases}
use Rattle.std.specs.List.{list_any}
use Rattle.std.specs.Ordering.{eq_by_cmp}
use Rattle.definitions.specs.Batches.{repeats}
use Rattle.definitions.specs.Reach.{least, lesser}
use Rattle.definitions.specs.Values.{Text, same_text}
use Rattle.lemmas.proofs.Lists.{map-take_more}
use Rattle.lemmas.proofs.Texts.{same_text_itself, same_text_is, same_text_turned, text_order, text_order-same}
use Rattle.definition_laws.proofs.LeastTexts.{least_is_least, neither_before, no_least}
use Rattle.definition_laws.proofs.Membership.{nothing_in, is_first, is_later, first_or_later, any_at, any_where}

-- ---- a text stands in a list
pub stands_any : (t : Text) (ts : List Text) → Contains ts t → list_any (same_text t) ts ≡ true
stands_any t ts c = any_at (same_text t) t ts c (same_text_itself t)

pub any_stands : (t : Text) (ts : List Text) → list_any (same_text t) ts ≡ true → Contains ts t
any_stands t ts e =
    let found : (u : Text) × (Contains ts u × (same_text t u ≡ true)) = any_where (same_text t) ts e in
    subst (Contains ts) (sym (same_text_is t found.0 found.1.1)) found.1.0

-- ---- what a list of repeats has
first_kept : (b : Bool) (t u : Text) (ts : List Text) → Contains (cond b (t ∷ ts) ts) u → ((b ≡ true) × (t ≡ u)) ⊎ Contains ts u
first_kept true t u ts c = elim (first_or_later t u ts c) [ inl same ↦ inl (refl, same) | inr later ↦ inr later ]
first_kept false t u ts c = inr c

newly_kept : (b : Bool) (t : Text) (ts : List Text) → b ≡ true → Contains (cond b (t ∷ ts) ts) t
newly_kept true t ts e = is_first t ts
newly_kept false t ts e = absurd (true≢false (sym e))

still_kept : (b : Bool) (t u : Text) (ts : List Text) → Contains ts u → Contains (cond b (t ∷ ts) ts) u
still_kept true t u ts c = is_later t u ts c
still_kept false t u ts c = c

pub repeated_stands : (ts : List Text) (u : Text) → Contains (repeats ts) u → Contains ts u
repeated_stands [] u c = absurd (nothing_in u c)
repeated_stands (t ∷ ts) u c = elim (first_kept (list_any (same_text t) ts) t u (repeats ts) c) [
  | inl here ↦ subst (Contains (t ∷ ts)) here.1 (is_first t ts)
  | inr later ↦ is_later t u ts (repeated_stands ts u later)
]

-- in the first list, in both, or in the second
abbrev pub IsRepeatOf : List Text → List Text → Text → Type 0
IsRepeatOf xs ys u = Contains (repeats xs) u ⊎ ((Contains xs u × Contains ys u) ⊎ Contains (repeats ys) u)

pub from_both : (xs ys : List Text) (u : Text) → Contains (repeats (xs ++ ys)) u → IsRepeatOf xs ys u
from_both [] ys u c = inr (inr c)
from_both (x ∷ xs) ys u c = elim (first_kept (list_any (same_text x) (xs ++ ys)) x u (repeats (xs ++ ys)) c) [
  | inl here ↦ elim (Contains-append_cases xs ys x (any_stands x (xs ++ ys) here.0)) [
    | inl own ↦ inl (subst (Contains (repeats (x ∷ xs))) here.1 (newly_kept (list_any (same_text x) xs) x (repeats xs) (stands_any x xs own)))
    | inr other ↦ inr (inl (subst (Contains (x ∷ xs)) here.1 (is_first x xs), subst (Contains ys) here.1 other))
  ]
  | inr later ↦ elim (from_both xs ys u later) [
    | inl own ↦ inl (still_kept (list_any (same_text x) xs) x u (repeats xs) own)
    | inr rest ↦ elim rest [
      | inl shared ↦ inr (inl (is_later x u xs shared.0, shared.1))
      | inr other ↦ inr (inr other)
    ]
  ]
]

pub in_first : (xs ys : List Text) (u : Text) → Contains (repeats xs) u → Contains (repeats (xs ++ ys)) u
in_first [] ys u c = absurd (nothing_in u c)
in_first (x ∷ xs) ys u c = elim (first_kept (list_any (same_text x) xs) x u (repeats xs) c) [
  | inl here ↦ subst (Contains (repeats (x ∷ xs ++ ys))) here.1
      (newly_kept (list_any (same_text x) (xs ++ ys)) x (repeats (xs ++ ys)) (stands_any x (xs ++ ys) (Contains-append_left xs ys x (any_stands x xs here.0))))
  | inr later ↦ still_kept (list_any (same_text x) (xs ++ ys)) x u (repeats (xs ++ ys)) (in_first xs ys u later)
]

pub in_shared : (xs ys : List Text) (u : Text) → Contains xs u → Contains ys u → Contains (repeats (xs ++ ys)) u
in_shared [] ys u c d = absurd (nothing_in u c)
in_shared (x ∷ xs) ys u c d = elim (first_or_later x u xs c) [
  | inl same ↦ subst (Contains (repeats (x ∷ xs ++ ys))) same
      (newly_kept (list_any (same_text x) (xs ++ ys)) x (repeats (xs ++ ys))
      (stands_any x (xs ++ ys) (Contains-append_right xs ys x (subst (Contains ys) (sym same) d))))
  | inr later ↦ still_kept (list_any (same_text x) (xs ++ ys)) x u (repeats (xs ++ ys)) (in_shared xs ys u later d)
]

pub in_second : (xs ys : List Text) (u : Text) → Contains (repeats ys) u → Contains (repeats (xs ++ ys)) u
in_second [] ys u c = c
in_second (x ∷ xs) ys u c = still_kept (list_any (same_text x) (xs ++ ys)) x u (repeats (xs ++ ys)) (in_second xs ys u c)

-- ---- the least of lists that have the same texts
abbrev pub AreWithin : List Text → List Text → Type 0
AreWithin xs ys = (u : Text) → Contains xs u → Contains ys u

alike_at : (xs ys : List Text) (o p : Option Text) → least xs ≡ o → least ys ≡ p → AreWithin xs ys → AreWithin ys xs → o ≡ p
alike_at xs ys None None e f there back = refl
alike_at xs ys None (Some s) e f there back =
    absurd (nothing_in s (subst (λ us. Contains us s) (no_least xs e) (back s (least_is_least ys s f).inside)))
alike_at xs ys (Some t) None e f there back =
    absurd (nothing_in t (subst (λ us. Contains us t) (no_least ys f) (there t (least_is_least xs t e).inside)))
alike_at xs ys (Some t) (Some s) e f there back =
    let one = least_is_least xs t e in
    let two = least_is_least ys s f in
    ap Some (neither_before t s (two.none_less t (there t one.inside)) (one.none_less s (back s two.inside)))

pub least_alike : (xs ys : List Text) → AreWithin xs ys → AreWithin ys xs → least xs ≡ least ys
least_alike xs ys there back = alike_at xs ys (least xs) (least ys) refl refl there back

-- ---- one text more
from_last : (xs : List Text) (t u : Text) → Contains (repeats (xs ++ t ∷ [])) u → Contains (repeats xs) u ⊎ (Contains xs u × (t ≡ u))
from_last xs t u c = elim (from_both xs (t ∷ []) u c) [
  | inl own ↦ inl own
  | inr rest ↦ elim rest [
    | inl shared ↦ elim (first_or_later t u [] shared.1) [
      | inl same ↦ inr (shared.0, same)
      | inr later ↦ absurd (nothing_in u later)
    ]
    | inr none ↦ absurd (nothing_in u none)
  ]
]

pub stood_before : (xs : List Text) (t : Text) → list_any (same_text t) xs ≡ true → least (repeats (xs ++ t ∷ [])) ≡ Some (lesser t (least (repeats xs)))
stood_before xs t e =
    least_alike (repeats (xs ++ t ∷ [])) (t ∷ repeats xs)
    (λ u c. elim (from_last xs t u c) [
      | inl own ↦ is_later t u (repeats xs) own
      | inr last ↦ subst (Contains (t ∷ repeats xs)) last.1 (is_first t (repeats xs))
    ])
    (λ u c. elim (first_or_later t u (repeats xs) c) [
      | inl same ↦ subst (Contains (repeats (xs ++ t ∷ []))) same (in_shared xs (t ∷ []) t (any_stands t xs e) (is_first t []))
      | inr later ↦ in_first xs (t ∷ []) u later
    ])

pub is_new : (xs : List Text) (t : Text) → list_any (same_text t) xs ≡ false → least (repeats (xs ++ t ∷ [])) ≡ least (repeats xs)
is_new xs t e =
    least_alike (repeats (xs ++ t ∷ [])) (repeats xs)
    (λ u c. elim (from_last xs t u c) [
      | inl own ↦ own
      | inr last ↦ absurd (true≢false (sym (stands_any t xs (subst (Contains xs) (sym last.1) last.0)) ∙ e))
    ])
    (λ u c. in_first xs (t ∷ []) u c)

-- ---- a walk over texts
either_way : (a b : Bool) → cond a true b ≡ (b || (a || false))
either_way true true = refl
either_way true false = refl
either_way false true = refl
either_way false false = refl

-- what was seen, with one text more
pub seen_more : (xs : List (Bor Text)) (i : ℕ) (key q : Bor Text) (before now : Bool) → i < length xs → key ≡ get_or xs i key
    → now ≡ cond (eq_by_cmp text_order key q) true before → before ≡ list_any (same_text q.now) (map (λ (t : Bor Text). t.now) (take i xs))
    → now ≡ list_any (same_text q.now) (map (λ (t : Bor Text). t.now) (take (i + 1) xs))
seen_more xs i key q before now lt is e so_far =
    let view = λ (t : Bor Text). t.now in
    e ∙ ap (λ b. cond b true before) (text_order-same key q ∙ same_text_turned key.now q.now)
    ∙ either_way (same_text q.now key.now) before
    ∙ ap (λ b. b || (same_text q.now key.now || false)) so_far
    ∙ sym (list_any-append (same_text q.now) (map view (take i xs)) (key.now ∷ []))
    ∙ ap (list_any (same_text q.now)) (sym (map-take_more view xs i key lt is))

-- the least of those that were seen again
pub found_again : (xs : List (Bor Text)) (i : ℕ) (key : Bor Text) (least_before : Option Text) (least_now : Text) → i < length xs → key ≡ get_or xs i key
    → true ≡ list_any (same_text key.now) (map (λ (t : Bor Text). t.now) (take i xs))
    → least_before ≡ least (repeats (map (λ (t : Bor Text). t.now) (take i xs))) → least_now ≡ lesser key.now least_before
    → Some least_now ≡ least (repeats (map (λ (t : Bor Text). t.now) (take (i + 1) xs)))
found_again xs i key least_before least_now lt is seen so_far e =
    let view = λ (t : Bor Text). t.now in
    ap Some (e ∙ ap (lesser key.now) so_far)
    ∙ sym (stood_before (map view (take i xs)) key.now (sym seen))
    ∙ ap (λ ts. least (repeats ts)) (sym (map-take_more view xs i key lt is))

pub found_new : (xs : List (Bor Text)) (i : ℕ) (key : Bor Text) (least_before : Option Text) → i < length xs → key ≡ get_or xs i key
    → false ≡ list_any (same_text key.now) (map (λ (t : Bor Text). t.now) (take i xs))
    → least_before ≡ least (repeats (map (λ (t : Bor Text). t.now) (take i xs)))
    → least_before ≡ least (repeats (map (λ (t : Bor Text). t.now) (take (i + 1) xs)))
found_new xs i key least_before lt is unseen so_far =
    let view = λ (t : Bor Text). t.now in
    so_far
    ∙ sym (is_new (map view (take i xs)) key.now (sym unseen))
    ∙ ap (λ ts. least (repeats ts)) (sym (map-take_more view xs i key lt is))

-- the text at a place
pub at_place : (xs : List (Bor Text)) (i : ℕ) (other : Bor Text) → i < length xs → get_or xs i other ≡ get_or xs i (get_or xs i other)
at_place [] i other lt = absurd (omega arith)
at_place (x ∷ xs) zero other lt = refl
at_place (x ∷ xs) (suc i) other lt = at_place xs i other (omega arith)

pub was_seen : (added seen : Bool) → added ≡ not seen → added ≡ false → true ≡ seen
was_seen added true e h = refl
was_seen added false e h = absurd (true≢false (sym e ∙ h))

pub was_unseen : (added seen : Bool) → added ≡ not seen → added ≡ true → false ≡ seen
was_unseen added true e h = absurd (true≢false (sym h ∙ e))
was_unseen added false e h = refl

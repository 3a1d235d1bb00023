-- Laws of schema objects that apply nothing.
use Rattle.std.proofs.Common.{◌≡◌, ◌<◌, ◌≤◌, ◌+◌, ℕ, zero, suc, List, [], ◌∷◌, ◌++◌, Bool, true, false, ltb, leb, ◌&&◌, ◌||◌, Option, Some, None, inl, inr, is_some, not, option_map, length, get_or, flat_map, refl, sym, ap, ◌∙◌, arith}
use Rattle.std.specs.Prelude.{◌==◌}
use Rattle.std.specs.List.{list_any}
use Rattle.std.proofs.lemmas.Bool.{and_parts, false_from_ne_true, leb-true, ltb-true, or_cases}
use Rattle.std.proofs.lemmas.Bool.Decides.{Decides-eqb}
use Rattle.definitions.specs.Assertions as meaning
use Rattle.definitions.specs.Values.{Text, Value, get, members}
use Rattle.definitions.specs.Applied.{Application, application_within}
use Rattle.assertions.specs.AssertionView.{assertion_in, assertion_view}
use Rattle.assertions.specs.declared.assertion.Assertion.{Assertion}
use Rattle.linker.specs.declared.linked.Linked.{Linked}
use Rattle.keywords.specs.Groups.{group_number, groups_before, in_order, is_evaluated}
use Rattle.keywords.specs.Rows.{row_of}
use Rattle.keywords.specs.declared.group.Group.{Group}
use Rattle.keywords.specs.declared.group.Group.TheVariants.{One, Conditional, Counted, Empty}
use Rattle.keywords.specs.declared.keyword.Keyword.{Keyword}
use Rattle.keywords.specs.declared.keyword.Keyword.TheVariants.{AllOf, ContentSchema, Pattern, Ref, «Type», UnevaluatedItems, UnevaluatedProperties}
use Rattle.evaluator.specs.Groups.{asserts_alone, first_groups}
use Rattle.evaluator.specs.Leaves.{HasLeafMarks, IsLeaf, is_leaf_mark}
use Rattle.evaluator.specs.Presents.{has_mark, mark_of}
use Rattle.evaluator.specs.Rounds.{group_uses, groups_uses, object_uses}
use Rattle.evaluator.proofs.AssertedLaws.{absent_use, asserted_use}
use Rattle.evaluator.proofs.PresentLaws.{absent, groups_alone, unused_at}

-- ---- where the groups stand that don't assert alone
abbrev pub number : Keyword → ℕ
number k = group_number (row_of k).name

abbrev stands_apart : ℕ → Bool
stands_apart i = ltb i (number «Type») || ((i == number Pattern) || leb (number AllOf) i)

abbrev are_apart : ℕ → List Group → Bool
are_apart i [] = true
are_apart i (g ∷ gs) = (asserts_alone g || stands_apart i) && are_apart (suc i) gs

all_apart : are_apart 0 first_groups ≡ true
unfolding first_groups group_number groups_before in_order
all_apart = refl

right_of : (p q : Bool) → p ≡ false → (p || q) ≡ true → q ≡ true
right_of true q e h = absurd (cc)
right_of false q e h = h

apart_at : (gs : List Group) (start i : ℕ) (d : Group) → are_apart start gs ≡ true → i < length gs → asserts_alone (get_or gs i d) ≡ false → stands_apart (start + i) ≡ true
apart_at [] start i d all h other = absurd (omega arith)
apart_at (g ∷ gs) start zero d all h other =
    let here : start + 0 ≡ start = omega arith in
    ap stands_apart here ∙ right_of (asserts_alone g) (stands_apart start) other (and_parts (asserts_alone g || stands_apart start) (are_apart (suc start) gs) all).0
apart_at (g ∷ gs) start (suc i) d all h other =
    let here : start + suc i ≡ suc start + i = omega arith in
    ap stands_apart here ∙ apart_at gs (suc start) i d (and_parts (asserts_alone g || stands_apart start) (are_apart (suc start) gs) all).1 (omega arith) other

last_group : length first_groups ≡ number UnevaluatedItems
unfolding first_groups group_number groups_before in_order
last_group = refl

-- none of them has a mark: none before `type`, not that of `pattern`, none from `allOf` on
pub marked_leaf : (s : Value)
    → ((i : ℕ) → 0 ≤ i → i < number «Type» → list_any (has_mark i) (members s) ≡ false)
    → ((i : ℕ) → number Pattern ≤ i → i < number Pattern + 1 → list_any (has_mark i) (members s) ≡ false)
    → ((i : ℕ) → number AllOf ≤ i → i < number UnevaluatedItems → list_any (has_mark i) (members s) ≡ false)
    → (is_some (get (row_of UnevaluatedItems).name s) || is_some (get (row_of UnevaluatedProperties).name s)) ≡ false → IsLeaf s
marked_leaf s none_before none_at none_after last = record {
  first =
      λ i h other.
      let apart : stands_apart i ≡ true = ap stands_apart (let e : i ≡ 0 + i = omega arith in e) ∙ apart_at first_groups 0 i (One Ref) all_apart h other in
      elim (or_cases (ltb i (number «Type»)) ((i == number Pattern) || leb (number AllOf) i) apart) [
        | inl less ↦ none_before i (omega arith) (ltb-true i (number «Type») less)
        | inr rest ↦ elim (or_cases (i == number Pattern) (leb (number AllOf) i) rest) [
          | inl same ↦ let e = (Decides-eqb i (number Pattern)).0 same in none_at i (omega (arith, e)) (omega (arith, e))
          | inr past ↦ none_after i (leb-true (number AllOf) i past) (omega (arith, h, last_group))
        ]
      ];
  last = last;
}

-- ---- the marks of its members
more_follow : ltb (length first_groups) (length in_order) ≡ true
unfolding first_groups group_number groups_before in_order
more_follow = refl

other_mark : (i n : ℕ) → i < n → (i == n) ≡ false
other_mark i n less = false_from_ne_true (i == n) (λ e. let same = (Decides-eqb i n).0 e in absurd (omega (arith, less, same)))

no_leaf_mark : (i : ℕ) → i < length first_groups → asserts_alone (get_or first_groups i (One Ref)) ≡ false → is_leaf_mark i ≡ false
unfolding is_leaf_mark
no_leaf_mark i h other = rw other (other_mark i (length in_order) (omega (arith, h, ltb-true (length first_groups) (length in_order) more_follow)))

items_last : is_leaf_mark (mark_of (row_of UnevaluatedItems).name) ≡ false
unfolding is_leaf_mark mark_of first_groups group_number groups_before in_order
items_last = refl

properties_last : is_leaf_mark (mark_of (row_of UnevaluatedProperties).name) ≡ false
unfolding is_leaf_mark mark_of first_groups group_number groups_before in_order
properties_last = refl

pub annotating_last : is_leaf_mark 63 ≡ false
unfolding is_leaf_mark first_groups group_number groups_before in_order
annotating_last = refl

pub leaf_by_marks : (s : Value) → HasLeafMarks (members s) → IsLeaf s
leaf_by_marks s marked =
    let items : get (row_of UnevaluatedItems).name s ≡ None = absent (row_of UnevaluatedItems).name _ (members s) refl (marked _ items_last) in
    let properties : get (row_of UnevaluatedProperties).name s ≡ None = absent (row_of UnevaluatedProperties).name _ (members s) refl (marked _ properties_last) in
    record {
      first = λ i h other. marked i (no_leaf_mark i h other);
      last = rw (items, properties) refl;
    }

-- a keyword that asserts alone, or only declares, has one
implied : (p q : Bool) → (not p || q) ≡ true → p ≡ true → q ≡ true
implied true q h e = h
implied false q h e = absurd (cc)

leaf_keywords : (k : Keyword) → (k ≡ ContentSchema → ⊥)
    → (not (is_some (assertion_in (row_of k).meaning) || not (is_evaluated (row_of k))) || is_leaf_mark (mark_of (row_of k).name)) ≡ true
unfolding is_leaf_mark mark_of first_groups group_number groups_before in_order
leaf_keywords ContentSchema other = absurd (other refl)
leaf_keywords _ other = refl

pub leaf_keyword : (k : Keyword) → (k ≡ ContentSchema → ⊥) → (is_some (assertion_in (row_of k).meaning) || not (is_evaluated (row_of k))) ≡ true
    → is_leaf_mark (mark_of (row_of k).name) ≡ true
leaf_keyword k other = implied _ _ (leaf_keywords k other)

abbrev asserts : Keyword → Bool
asserts k = is_some (assertion_in (row_of k).meaning)

-- one that asserts isn't `contentSchema`
pub asserting_keyword : (k : Keyword) (o : Option Assertion) (x : Assertion) → o ≡ Some x → option_map assertion_view o ≡ assertion_in (row_of k).meaning
    → is_leaf_mark (mark_of (row_of k).name) ≡ true
asserting_keyword k o x is named =
    let here : asserts k ≡ true = ap is_some (sym named ∙ ap (option_map assertion_view) is) in
    leaf_keyword k (λ e. let never : true ≡ false = sym here ∙ ap asserts e in absurd (cc)) (ap (λ b. b || not (is_evaluated (row_of k))) here)

-- one member more
pub next_mark : (m : Text × Value) (ms : List (Text × Value)) (i : ℕ) → is_leaf_mark (mark_of m.0) ≡ true → is_leaf_mark i ≡ false
    → list_any (has_mark i) ms ≡ false → list_any (has_mark i) (m ∷ ms) ≡ false
next_mark m ms i here other none =
    let apart : has_mark i m ≡ false =
    false_from_ne_true (has_mark i m) (λ e. let both : true ≡ false = sym here ∙ ap is_leaf_mark ((Decides-eqb (mark_of m.0) i).0 e) ∙ other in absurd (cc)) in
    rw apart none

-- ---- a group that asserts says the same within the object
alike_all : {X Y : Type 0} (f g : X → List Y) (xs : List X) (d : X) → ((i : ℕ) → i < length xs → f (get_or xs i d) ≡ g (get_or xs i d)) → flat_map f xs ≡ flat_map g xs
alike_all f g [] d each = refl
alike_all f g (x ∷ xs) d each =
    ap (λ ys. ys ++ flat_map f xs) (each 0 (omega arith)) ∙ ap (λ ys. g x ++ ys) (alike_all f g xs d (λ i h. each (suc i) (omega (arith, h))))

alike_keyword : (l : Linked) (left : ℕ) (a : Application) (k : Keyword) (o : Option Value) (m : Option meaning.Assertion) → get (row_of k).name a.schema.value ≡ o
    → assertion_in (row_of k).meaning ≡ m → is_some m ≡ true → group_uses l left a (One k) ≡ group_uses l left (application_within a) (One k)
alike_keyword l left a k o None got in_table some = absurd (cc)
alike_keyword l left a k None (Some x) got in_table some = absent_use l left a k got ∙ sym (absent_use l left (application_within a) k got)
alike_keyword l left a k (Some v) (Some x) got in_table some =
    asserted_use l left a k v x (sym in_table) got ∙ sym (asserted_use l left (application_within a) k v x (sym in_table) got)

alike_group : (l : Linked) (left : ℕ) (a : Application) (g : Group) → asserts_alone g ≡ true → group_uses l left a g ≡ group_uses l left (application_within a) g
alike_group l left a (One k) asserts = alike_keyword l left a k (get (row_of k).name a.schema.value) (assertion_in (row_of k).meaning) refl refl asserts
alike_group l left a Conditional asserts = absurd (cc)
alike_group l left a Counted asserts = absurd (cc)
alike_group l left a Empty asserts = absurd (cc)

-- ---- a group that doesn't is not there
pub leaf_group : (l : Linked) (left : ℕ) (a : Application) (s : Value) (i : ℕ) → a.schema.value ≡ s → IsLeaf s → i < length first_groups
    → asserts_alone (get_or first_groups i (One Ref)) ≡ false → group_uses l left a (get_or first_groups i (One Ref)) ≡ []
leaf_group l left a s i same leaf h other = unused_at l left a i h (rw same (leaf.first i h other))

alike_at : (l : Linked) (left : ℕ) (a : Application) (s : Value) (i : ℕ) (b : Bool) → a.schema.value ≡ s → IsLeaf s → i < length first_groups
    → asserts_alone (get_or first_groups i (One Ref)) ≡ b
    → group_uses l left a (get_or first_groups i (One Ref)) ≡ group_uses l left (application_within a) (get_or first_groups i (One Ref))
alike_at l left a s i true same leaf h is = alike_group l left a (get_or first_groups i (One Ref)) is
alike_at l left a s i false same leaf h is = leaf_group l left a s i same leaf h is ∙ sym (leaf_group l left (application_within a) s i same leaf h is)

-- ---- the object
pub leaf_uses : (l : Linked) (left : ℕ) (a : Application) (s : Value) → a.schema.value ≡ s → IsLeaf s
    → groups_uses l left a first_groups ≡ object_uses l left (application_within a)
leaf_uses l left a s same leaf =
    alike_all (group_uses l left a) (group_uses l left (application_within a)) first_groups (One Ref)
    (λ i h. alike_at l left a s i (asserts_alone (get_or first_groups i (One Ref))) same leaf h refl)
    ∙ groups_alone l left (application_within a) s same leaf.last

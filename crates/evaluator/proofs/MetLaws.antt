-- Laws of schema objects all of whose assertions hold.
use Rattle.std.proofs.Common.{◌≡◌, ◌≤◌, ◌<◌, ◌+◌, ◌∙◌, ℕ, zero, suc, List, [], ◌∷◌, Bool, true, false, cond, Option, Some, None, is_some, option_map, unwrap_or, length, get_or, take, refl, sym, ap, subst, arith}
use Rattle.std.proofs.lemmas.Bool.{and_from, and_parts}
use Rattle.std.proofs.lemmas.List.{take_all}
use Rattle.std.proofs.lemmas.Option.{same_Some}
use Rattle.std.specs.List.{list_all}
use Rattle.definitions.specs.Applied.{Application}
use Rattle.definitions.specs.Assertions as meaning
use Rattle.definitions.specs.Assertions.{holds}
use Rattle.definitions.specs.Values.{Text, Value, entry, get, members, same_text}
use Rattle.assertions.specs.AssertionView.{assertion_in}
use Rattle.keywords.proofs.Names.{row_there}
use Rattle.keywords.specs.Rows.{row_named, row_of}
use Rattle.keywords.specs.declared.group.Group.{Group}
use Rattle.keywords.specs.declared.group.Group.TheVariants.{One, Conditional, Counted, Empty}
use Rattle.keywords.specs.declared.keyword.Keyword.{Keyword}
use Rattle.keywords.specs.declared.keyword.Keyword.TheVariants.{Ref}
use Rattle.lemmas.proofs.Texts.{same_text_is}
use Rattle.linker.specs.declared.linked.Linked.{Linked}
use Rattle.evaluator.specs.Groups.{asserts_alone, first_groups}
use Rattle.evaluator.specs.Leaves.{HasLeafMarks, IsLeaf, is_leaf_mark}
use Rattle.evaluator.specs.Rounds.{group_uses, groups_uses}
use Rattle.evaluator.specs.Presents.{mark_of}
use Rattle.evaluator.specs.Silences.{AreSilent, assertion_of_row, is_member_met, is_met_alone}
use Rattle.evaluator.proofs.LeafLaws.{leaf_group, next_mark}
use Rattle.evaluator.proofs.SilenceLaws.{absent_silent, holding_silent, more_silent, none_silent}

-- ---- a keyword that is there
first_met : (x : Value) (b : Bool) (m : Text × Value) (ms : List (Text × Value)) (k : Keyword) (y : meaning.Assertion) (v : Value)
    → same_text (row_of k).name m.0 ≡ b → Some y ≡ assertion_in (row_of k).meaning → cond b (Some m.1) (entry (row_of k).name ms) ≡ Some v
    → is_member_met x m ≡ true → (entry (row_of k).name ms ≡ Some v → holds y v x ≡ true) → holds y v x ≡ true
first_met x true m ms k y v same asserts found met later =
    let row : row_named m.0 ≡ Some (row_of k) = ap row_named (sym (same_text_is (row_of k).name m.0 same)) ∙ sym (row_there k) in
    let noted_report : assertion_of_row (row_named m.0) ≡ Some y = ap assertion_of_row row ∙ sym asserts in
    ap (λ w. holds y w x) (sym (same_Some _ _ found)) ∙ sym (ap (λ o. unwrap_or (option_map (λ z. holds z m.1 x) o) true) noted_report) ∙ met
first_met x false m ms k y v same asserts found met later = later found

pub member_holds : (x : Value) (ms : List (Text × Value)) (k : Keyword) (y : meaning.Assertion) (v : Value) → Some y ≡ assertion_in (row_of k).meaning
    → entry (row_of k).name ms ≡ Some v → list_all (is_member_met x) ms ≡ true → holds y v x ≡ true
member_holds x [] k y v asserts found all = absurd (cc)
member_holds x (m ∷ ms) k y v asserts found all =
    let parts = and_parts (is_member_met x m) (list_all (is_member_met x) ms) all in
    first_met x (same_text (row_of k).name m.0) m ms k y v refl asserts found parts.0 (λ later. member_holds x ms k y v asserts later parts.1)

-- ---- a member
pub made_met : (x v : Value) (name : Text) (k : Keyword) (o : Option Keyword) (y : meaning.Assertion) → o ≡ Some k → option_map row_of o ≡ row_named name
    → Some y ≡ assertion_in (row_of k).meaning → holds y v x ≡ true → is_member_met x (name, v) ≡ true
made_met x v name k o y is named asserts met =
    let noted_report : assertion_of_row (row_named name) ≡ Some y = ap assertion_of_row (sym named ∙ ap (option_map row_of) is) ∙ sym asserts in
    ap (λ z. unwrap_or (option_map (λ w. holds w v x) z) true) noted_report ∙ met

pub none_made_met : (x v : Value) (name : Text) (k : Keyword) (o : Option Keyword) → o ≡ Some k → option_map row_of o ≡ row_named name
    → None ≡ assertion_in (row_of k).meaning → is_member_met x (name, v) ≡ true
none_made_met x v name k o is named none =
    let noted_report : assertion_of_row (row_named name) ≡ None = ap assertion_of_row (sym named ∙ ap (option_map row_of) is) ∙ sym none in
    ap (λ z. unwrap_or (option_map (λ w. holds w v x) z) true) noted_report

-- ---- members all of which are met and apply nothing
pub alone_met : (x : Value) (ms : List (Text × Value)) → list_all (is_met_alone x) ms ≡ true → list_all (is_member_met x) ms ≡ true
alone_met x [] all = refl
alone_met x (m ∷ ms) all =
    let parts = and_parts (is_met_alone x m) (list_all (is_met_alone x) ms) all in
    and_from (is_member_met x m) (list_all (is_member_met x) ms) (and_parts (is_leaf_mark (mark_of m.0)) (is_member_met x m) parts.0).1 (alone_met x ms parts.1)

pub alone_marks : (x : Value) (ms : List (Text × Value)) → list_all (is_met_alone x) ms ≡ true → HasLeafMarks ms
alone_marks x [] all i other = refl
alone_marks x (m ∷ ms) all i other =
    let parts = and_parts (is_met_alone x m) (list_all (is_met_alone x) ms) all in
    next_mark m ms i (and_parts (is_leaf_mark (mark_of m.0)) (is_member_met x m) parts.0).0 other (alone_marks x ms parts.1 i other)

-- ---- its groups
module _ (l : Linked) (left : ℕ) (a : Application) where
  met_keyword : (k : Keyword) (o : Option Value) (y : Option meaning.Assertion) → get (row_of k).name a.schema.value ≡ o → assertion_in (row_of k).meaning ≡ y
      → list_all (is_member_met a.instance) (members a.schema.value) ≡ true → is_some y ≡ true → AreSilent a (group_uses l left a (One k))
  met_keyword k o None got asserts all some = absurd (cc)
  met_keyword k None (Some y) got asserts all some = absent_silent l left a k got
  met_keyword k (Some v) (Some y) got asserts all some =
      holding_silent l left a k v y (sym asserts) got (member_holds a.instance (members a.schema.value) k y v (sym asserts) got all)

  met_group : (g : Group) → list_all (is_member_met a.instance) (members a.schema.value) ≡ true → asserts_alone g ≡ true → AreSilent a (group_uses l left a g)
  met_group (One k) all asserts = met_keyword k (get (row_of k).name a.schema.value) (assertion_in (row_of k).meaning) refl refl all asserts
  met_group Conditional all asserts = absurd (cc)
  met_group Counted all asserts = absurd (cc)
  met_group Empty all asserts = absurd (cc)

  met_at : (s : Value) (i : ℕ) (b : Bool) → a.schema.value ≡ s → IsLeaf s → list_all (is_member_met a.instance) (members a.schema.value) ≡ true → i < length first_groups
      → asserts_alone (get_or first_groups i (One Ref)) ≡ b → AreSilent a (group_uses l left a (get_or first_groups i (One Ref)))
  met_at s i true same leaf all h is = met_group (get_or first_groups i (One Ref)) all is
  met_at s i false same leaf all h is = none_silent a _ (leaf_group l left a s i same leaf h is)

  first_silent : (s : Value) (n : ℕ) → a.schema.value ≡ s → IsLeaf s → list_all (is_member_met a.instance) (members a.schema.value) ≡ true → n ≤ length first_groups
      → AreSilent a (groups_uses l left a (take n first_groups))
  first_silent s zero same leaf all h = none_silent a _ refl
  first_silent s (suc n) same leaf all h =
      let on : n + 1 ≡ suc n = omega arith in
      let less : n < length first_groups = omega (arith, h) in
      subst (λ k. AreSilent a (groups_uses l left a (take k first_groups))) on
      (more_silent a (group_uses l left a) first_groups n (One Ref) less (first_silent s n same leaf all (omega (arith, h)))
      (met_at s n (asserts_alone (get_or first_groups n (One Ref))) same leaf all less refl))

  pub met_silent : (s : Value) → a.schema.value ≡ s → IsLeaf s → list_all (is_member_met a.instance) (members a.schema.value) ≡ true
      → AreSilent a (groups_uses l left a first_groups)
  met_silent s same leaf all =
      subst (λ gs. AreSilent a (groups_uses l left a gs)) (take_all (length first_groups) first_groups (omega arith))
      (first_silent s (length first_groups) same leaf all (omega arith))

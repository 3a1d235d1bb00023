-- Laws of what passes without a word.
use Rattle.std.proofs.Common.{◌≡◌, ◌<◌, ◌+◌, ◌-◌, ◌++◌, ◌&&◌, ◌∙◌, [], ℕ, List, Some, None, true, false, refl, sym, ap, ap₂, subst, take, length, get_or, flat_map}
use Rattle.std.proofs.lemmas.Bool.{and_right}
use Rattle.std.proofs.lemmas.List.Folds.{list_all-append}
use Rattle.std.specs.List.{list_any}
use Rattle.definitions.specs.Assertions as meaning
use Rattle.definitions.specs.Assertions.{holds}
use Rattle.definitions.specs.Values.{Text, Value, get, is_object}
use Rattle.definitions.specs.Applied as definition
use Rattle.definitions.specs.Applied.{Application, Outcome, part_location}
use Rattle.definitions.specs.Schemas.{Identity, identity}
use Rattle.definitions.specs.Outcomes.{Use, is_running, other_annotations, outcome_of_uses}
use Rattle.assertions.specs.AssertionView.{assertion_in}
use Rattle.json_doc.specs.Docs.{value}
use Rattle.json_doc.specs.Kinds.{as_boolean}
use Rattle.linker.specs.declared.linked.Linked.{Linked}
use Rattle.applicators.specs.Plans.{part_view, planned_view, way_application}
use Rattle.keyword_plans.specs.ObjectApplications.{linked_rules}
use Rattle.applicators.specs.Subjects.{subject_value}
use Rattle.applicators.specs.declared.planned.Planned.{Planned}
use Rattle.applicators.specs.declared.planned.Way.{Way}
use Rattle.applicators.specs.declared.planned.Way.TheVariants.{Own, Member, Element, Target}
use Rattle.keywords.specs.Rows.{row_of}
use Rattle.keywords.specs.declared.group.Group.TheVariants.{One}
use Rattle.keywords.specs.declared.keyword.Keyword.{Keyword}
use Rattle.evaluation_context.specs.Runnings.{is_running_as}
use Rattle.evaluation_context.specs.Standings.{Standing, at_keyword, standing_of}
use Rattle.evaluator.specs.Groups.{first_groups}
use Rattle.evaluator.specs.Leaves.{IsLeaf}
use Rattle.evaluation_log.specs.Notes.{no_notes, notes_of_both, one_application}
use Rattle.evaluator.specs.Rounds.{group_uses, groups_uses, linked_outcome}
use Rattle.evaluator.specs.Silences.{AreSilent}
use Rattle.evaluation_log.specs.Notes.{IsSilent}
use Rattle.evaluator.proofs.AssertedLaws.{absent_use, asserted_use, passing_notes}
use Rattle.evaluator.proofs.CombinedLaws.{passing_object}
use Rattle.evaluator.proofs.LeafLaws.{leaf_uses}
use Rattle.evaluation_log.proofs.LogLaws.{added_nothing, annotated}
use Rattle.evaluator.proofs.ObjectLaws.{object_by_groups}
use Rattle.evaluator.proofs.OutcomeLaws.{outcome-boolean, outcome-object}
use Rattle.evaluator.proofs.UseLaws.{flat_more, uses_more_notes}

pub none_silent : (a : Application) (us : List Use) → us ≡ [] → AreSilent a us
none_silent a us none = rw none (record { passes = refl; noted = refl })

pub both_silent : (a : Application) (us vs : List Use) → AreSilent a us → AreSilent a vs → AreSilent a (us ++ vs)
both_silent a us vs h k = record {
  passes = list_all-append (λ (u : Use). u.passes) us vs ∙ ap₂ (λ p q. p && q) h.passes k.passes;
  noted = sym (uses_more_notes a us vs) ∙ ap₂ notes_of_both h.noted k.noted ∙ added_nothing no_notes;
}

-- one group more
pub more_silent : {X : Type 0} (a : Application) (uses : X → List Use) (xs : List X) (i : ℕ) (d : X) → i < length xs
    → AreSilent a (flat_map uses (take i xs)) → AreSilent a (uses (get_or xs i d)) → AreSilent a (flat_map uses (take (i + 1) xs))
more_silent a uses xs i d less h k = rw (flat_more uses xs i d less) (both_silent a (flat_map uses (take i xs)) (uses (get_or xs i d)) h k)

-- an assertion that holds, and one that isn't there
pub holding_silent : (l : Linked) (left : ℕ) (a : Application) (k : Keyword) (v : Value) (x : meaning.Assertion) → Some x ≡ assertion_in (row_of k).meaning
    → get (row_of k).name a.schema.value ≡ Some v → holds x v a.instance ≡ true → AreSilent a (group_uses l left a (One k))
holding_silent l left a k v x in_table got met =
    rw (asserted_use l left a k v x in_table got) (record { passes = rw met refl; noted = passing_notes (row_of k).name x v a met })

pub absent_silent : (l : Linked) (left : ℕ) (a : Application) (k : Keyword) → get (row_of k).name a.schema.value ≡ None → AreSilent a (group_uses l left a (One k))
absent_silent l left a k gone = none_silent a (group_uses l left a (One k)) (absent_use l left a k gone)

-- ---- what is planned below the instance location isn't being applied
running_planned : (k : Text) (a : Application) (way : Way) (v : Value) (part : definition.Part) (x : Value)
    → let b = way_application k a way v part x in
    is_running b ≡ (is_object b.schema.value && list_any (is_running_as (identity b.schema) (part_location a.instance_location part)) a.running)
running_planned k a Own v part x = refl
running_planned k a (Member name) v part x = refl
running_planned k a (Element i) v part x = refl
running_planned k a (Target origin) v part x = refl

pub apart_below : (st : Standing) (k : Text) (a : Application) (p : Planned) → st ≡ at_keyword k (standing_of a)
    → ((i : Identity) → list_any (is_running_as i (part_location st.instance_location (part_view p.part))) st.running ≡ false)
    → is_running (planned_view k a p).1 ≡ false
apart_below st k a p under none =
    let b = (planned_view k a p).1 in
    running_planned k a p.way (value p.schema.now) (part_view p.part) (subject_value p.subject)
    ∙ and_right (is_object b.schema.value) _
    (subst (λ (s : Standing). list_any (is_running_as (identity b.schema) (part_location s.instance_location (part_view p.part))) s.running ≡ false) under (none (identity b.schema)))

-- ---- the object
pub leaf_silent : (l : Linked) (left : ℕ) (a : Application) (s : Value) → a.schema.value ≡ s → IsLeaf s → None ≡ as_boolean a.schema.value → is_running a ≡ false
    → 0 < left → other_annotations a ≡ [] → AreSilent a (groups_uses l (left - 1) a first_groups) → IsSilent (linked_outcome l left a)
leaf_silent l left a s same leaf other apart nests quiet silent =
    let us = groups_uses l (left - 1) a first_groups in
    let is : linked_outcome l left a ≡ outcome_of_uses a us =
    outcome-object (linked_rules l) left a apart other nests ∙ object_by_groups l (left - 1) a ∙ ap (outcome_of_uses a) (sym (leaf_uses l (left - 1) a s same leaf)) in
    rw is (record {
      passes = silent.passes;
      noted =
          sym (passing_object a us silent.passes) ∙ ap₂ (λ n us. notes_of_both (notes_of_both one_application n) (annotated us)) silent.noted quiet
          ∙ added_nothing (notes_of_both one_application no_notes) ∙ added_nothing one_application;
    })

-- ---- the schema `true`
pub true_silent : (l : Linked) (left : ℕ) (a : Application) → Some true ≡ as_boolean a.schema.value → 0 < left → IsSilent (linked_outcome l left a)
true_silent l left a is nests = rw (outcome-boolean (linked_rules l) left a true is nests) (record { passes = refl; noted = refl })

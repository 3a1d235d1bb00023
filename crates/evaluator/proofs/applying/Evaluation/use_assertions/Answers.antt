use Rattle.std.proofs.Common.{Ok, true, rules, ◌≡◌, ◌<◌, ◌≤◌, ◌+◌, ◌&&◌, ◌∙◌, [], ℕ, Bor, false, refl, sym, ap, subst, arith, length, get_or}
use Rattle.std.proofs.lemmas.List.{take_all}
use Rattle.definitions.specs.Applied.{Application}
use Rattle.json_doc.specs.Docs.{value}
use Rattle.keywords.specs.declared.group.Group.TheVariants.{One}
use Rattle.keywords.specs.declared.keyword.Keyword.TheVariants.{Ref}
use Rattle.applicators.specs.Subjects.{subject_value}
use Rattle.linker.specs.declared.linked.Linked.{Linked}
use Rattle.evaluation_context.specs.Frames.{context_view}
use Rattle.evaluator.specs.Applying.{HasUses}
use Rattle.evaluator.specs.Groups.{asserts_alone, first_groups}
use Rattle.evaluator.specs.Rounds.{IsAt, group_uses, groups_uses}
use Rattle.evaluator.proofs.LeafLaws.{leaf_group}
use Rattle.evaluator.proofs.PresentLaws.{groups_passed}
use Rattle.evaluator.proofs.TurnLaws.{group_used, none_used}
use Rattle.evaluator.proofs.UseLaws.{few_groups, still_at}
use Rattle.evaluator.proofs.applying.Evaluation.use_assertions.Goals as goal

pub loop-next-init : goal.loop-next-init
loop-next-init c =
    let l = c.args.self.now.linked.now in
    let s = value c.args.schema_use.now.present.now.schema.now in
    let none = λ (a : Application) (left : ℕ) (at : IsAt l (context_view c.args.self.now.context) s (subject_value c.args.schema_use.now.subject) a).
    groups_passed l left a s 0 c.first_mark-next.result (ap (λ (b : Application). b.schema.value) at.there) c.first_mark-next.ensures.onward c.first_mark-next.ensures.passed in
    record {
      linked = refl;
      back = refl;
      outcome = λ a left at. subst (HasUses c.args.self.now c.args.self.now (Ok true) a) (none a left at) (none_used c.args.self.now a);
    }

pub returns-in_err-passes-clause-stays : goal.returns-in_err-passes-clause-stays
returns-in_err-passes-clause-stays c = record { linked = c.use_asserting.ensures.stays.linked ∙ c.loop-next.invariant.linked; back = search rules }

pub first_mark-next-requires-in-loop-next : goal.first_mark-next-requires-in-loop-next
first_mark-next-requires-in-loop-next c =
    let inside : c.loop-next.next < length first_groups = subst (λ gs. c.loop-next.next < length gs) c.first_groups-groups.ensures c.loop-next-test.true in
    omega (arith, inside, few_groups)

pub loop-next-preserved : goal.loop-next-preserved
loop-next-preserved c =
    let same = c.loop-next.invariant.linked in
    let l = c.args.self.now.linked.now in
    let s = value c.args.schema_use.now.present.now.schema.now in
    let i = c.loop-next.next in
    let inside : i < length first_groups = subst (λ gs. i < length gs) c.first_groups-groups.ensures c.loop-next-test.true in
    let here : get_or c.first_groups-groups.result.now i (One Ref) ≡ get_or first_groups i (One Ref) = ap (λ gs. get_or gs i (One Ref)) c.first_groups-groups.ensures in
    let schema = λ (a : Application) (at : IsAt l (context_view c.args.self.now.context) s (subject_value c.args.schema_use.now.subject) a). ap (λ (b : Application). b.schema.value) at.there in
    let on = λ (a : Application) (left : ℕ) (at : IsAt l (context_view c.args.self.now.context) s (subject_value c.args.schema_use.now.subject) a).
    groups_passed l left a s (i + 1) c.first_mark-next-in-loop-next.result (schema a at) c.first_mark-next-in-loop-next.ensures.onward c.first_mark-next-in-loop-next.ensures.passed in
    let gone = λ (a : Application) (left : ℕ) (at : IsAt l (context_view c.args.self.now.context) s (subject_value c.args.schema_use.now.subject) a).
    subst (λ g. asserts_alone g ≡ false → group_uses c.loop-next.self.linked.now left a g ≡ []) (sym here)
    (subst (λ (m : Bor Linked). asserts_alone (get_or first_groups i (One Ref)) ≡ false → group_uses m.now left a (get_or first_groups i (One Ref)) ≡ []) (sym same)
    (leaf_group l left a s i (schema a at) c.requires.leaf inside)) in
    record {
      linked = c.in_ok-passes.ensures.stays.linked ∙ same;
      back = c.in_ok-passes.ensures.stays.back ∙ c.loop-next.invariant.back;
      outcome =
          λ a left at.
          let there = still_at same c.loop-next.invariant.back at in
          let used = subst (λ (m : Bor Linked). HasUses c.loop-next.self c.use_asserting.new.self (Ok c.in_ok-passes.passes) a (group_uses m.now left a (get_or c.first_groups-groups.result.now i (One Ref)))) same
          (c.in_ok-passes.ensures.outcome a left there (gone a left at)) in
          subst (HasUses c.args.self.now c.use_asserting.new.self (Ok (c.loop-next.valid && c.in_ok-passes.passes)) a) (on a left at)
          (group_used a (group_uses l left a) first_groups i (One Ref) inside (c.loop-next.invariant.outcome a left at)
          (subst (λ g. HasUses c.loop-next.self c.use_asserting.new.self (Ok c.in_ok-passes.passes) a (group_uses l left a g)) here used));
    }

pub returns-clause-stays : goal.returns-clause-stays
returns-clause-stays c = record { linked = c.loop-next.invariant.linked; back = c.loop-next.invariant.back }

pub returns-clause-outcome : goal.returns-clause-outcome
returns-clause-outcome c a left at =
    let past : length first_groups ≤ c.loop-next.next = subst (λ gs. length gs ≤ c.loop-next.next) c.first_groups-groups.ensures c.loop-next-test.false in
    subst (λ gs. HasUses c.args.self.now c.loop-next.self (Ok c.loop-next.valid) a (groups_uses c.args.self.now.linked.now left a gs)) (take_all c.loop-next.next first_groups past) (c.loop-next.invariant.outcome a left at)

use Rattle.std.proofs.Common.{◌∙◌, ap, sym, refl, option_map}
use Rattle.std.proofs.lemmas.Bool.{and_from}
use Rattle.std.proofs.lemmas.Result.{IfOk-weaker}
use Rattle.assertions.specs.AssertionView.{assertion_view}
use Rattle.json_doc.specs.Docs.{value}
use Rattle.json_doc.specs.NamedMembers.{name_text}
use Rattle.applicators.specs.Subjects.{subject_value}
use Rattle.evaluator.specs.Leaves.{is_leaf_mark}
use Rattle.evaluator.proofs.LeafLaws.{asserting_keyword}
use Rattle.evaluator.proofs.MetLaws.{made_met, none_made_met}
use Rattle.evaluator.proofs.PresentLaws.{mark_of_named}
use Rattle.evaluator.proofs.applying.Evaluation.is_member_met.Goals as goal

pub returns-in-Some-of-clause-met : goal.returns-in-Some-of-clause-met
returns-in-Some-of-clause-met c =
    let name = name_text c.args.name in
    let k = c.in-Some.keyword in
    let leaf = ap is_leaf_mark (sym (mark_of_named name k c.keyword.result _ c.in-Some.is c.keyword.ensures refl)) ∙ asserting_keyword k c.of.result c.in-Some-of.assertion c.in-Some-of.is c.of.ensures in
    IfOk-weaker c.is_value_met.result _ _
    (λ b met all.
    and_from _ _ leaf (made_met (subject_value c.args.subject) (value c.args.keyword_value.now) name k c.keyword.result (assertion_view c.in-Some-of.assertion)
    c.in-Some.is c.keyword.ensures (sym (ap (option_map assertion_view) c.in-Some-of.is) ∙ c.of.ensures) (met all)))
    c.is_value_met.ensures.met

pub returns-in-None-clause-met : goal.returns-in-None-clause-met
returns-in-None-clause-met c declares =
    let name = name_text c.args.name in
    let k = c.in-Some.keyword in
    let leaf = ap is_leaf_mark (sym (mark_of_named name k c.keyword.result _ c.in-Some.is c.keyword.ensures refl)) ∙ c.only_declares.ensures declares in
    and_from _ _ leaf (none_made_met (subject_value c.args.subject) (value c.args.keyword_value.now) name k c.keyword.result
    c.in-Some.is c.keyword.ensures (sym (ap (option_map assertion_view) c.in-None.is) ∙ c.of.ensures))

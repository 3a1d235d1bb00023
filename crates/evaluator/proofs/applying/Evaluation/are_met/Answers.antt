use Rattle.std.proofs.Common.{◌∙◌, ap}
use Rattle.std.proofs.lemmas.Bool.{and_from}
use Rattle.std.specs.List.{list_all}
use Rattle.applicators.specs.Subjects.{subject_value}
use Rattle.evaluator.specs.Silences.{is_met_alone}
use Rattle.evaluator.proofs.applying.Evaluation.are_met.Goals as goal

pub loop-name-preserved : goal.loop-name-preserved
loop-name-preserved c = record {
  linked = c.in_ok-met.ensures.same.linked ∙ c.loop-name.invariant.linked;
  context = c.in_ok-met.ensures.same.context ∙ c.loop-name.invariant.context;
  log = c.in_ok-met.ensures.same.log ∙ c.loop-name.invariant.log;
  met =
      λ rest. c.loop-name.invariant.met
      (ap (list_all (is_met_alone (subject_value c.args.subject))) c.in-Some.ensures.steps ∙ and_from _ _ (c.in_ok-met.ensures.met c.if-not-met.false) rest);
}

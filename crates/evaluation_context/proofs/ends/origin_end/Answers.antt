use Rattle.std.proofs.Common.{sym, ap, ◌∙◌}
use Rattle.basic_output.specs.PointerViews.{origin_view}
use Rattle.evaluation_context.specs.Ends.{text_end}
use Rattle.evaluation_context.proofs.EndLaws.{tells_resource, tells_step}
use Rattle.evaluation_context.proofs.ends.origin_end.Goals as goal

pub returns-in-Some : goal.returns-in-Some
returns-in-Some c =
    tells_step c.step_end.result (origin_view c.args.origin.now) c.steps.result.now c.in-Some.step.now c.steps.ensures (sym c.in-Some.ensures.value) c.step_end.ensures

pub returns-in-None : goal.returns-in-None
returns-in-None c =
    tells_resource c.text_end.result (origin_view c.args.origin.now) c.steps.result.now c.steps.ensures c.in-None.ensures.value (c.text_end.ensures ∙ ap text_end c.resource.ensures)

use Rattle.std.proofs.Common.{sym}
use Rattle.basic_output.specs.PointerViews.{origin_view}
use Rattle.evaluation_context.proofs.EndLaws.{tells_onward, tells_origin}
use Rattle.evaluation_context.proofs.ends.end_of.Goals as goal

pub returns-in-Some : goal.returns-in-Some
returns-in-Some c =
    tells_onward c.step_end.result (origin_view c.args.origin.now) c.args.onward.now c.in-Some.step.now (sym c.in-Some.ensures.value) c.step_end.ensures

pub returns-in-None : goal.returns-in-None
returns-in-None c = tells_origin c.origin_end.result (origin_view c.args.origin.now) c.args.onward.now c.in-None.ensures.value c.origin_end.ensures

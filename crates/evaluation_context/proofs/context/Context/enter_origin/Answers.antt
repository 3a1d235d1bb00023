use Rattle.std.proofs.Common.{refl, ap}
use Rattle.std.specs.Global.{Global}
use Rattle.std.specs.declared.rc.Rc.{Rc}
use Rattle.basic_output.specs.PointerViews.{origin_view}
use Rattle.basic_output.specs.declared.origin.Origin.{Origin}
use Rattle.evaluation_context.specs.Frames.{context_view}
use Rattle.evaluation_context.specs.Moves.{at_origin}
use Rattle.evaluation_context.proofs.FrameLaws.{same_frames}
use Rattle.evaluation_context.proofs.context.Context.enter_origin.Goals as goal

pub returns-clause-moved : goal.returns-clause-moved
unfolding context_view at_origin
returns-clause-moved c = same_frames refl (ap (λ (o : Rc Origin Global). origin_view o.value) c.replace.ensures.after) refl refl refl refl refl refl

pub returns-clause-left : goal.returns-clause-left
unfolding context_view
returns-clause-left c = ap (λ (o : Rc Origin Global). origin_view o.value) c.replace.ensures.value

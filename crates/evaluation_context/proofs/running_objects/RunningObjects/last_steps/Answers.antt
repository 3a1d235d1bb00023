use Rattle.std.proofs.Common.{ap, ◌∙◌}
use Rattle.evaluation_context.specs.Runnings.{last_steps}
use Rattle.evaluation_context.specs.RunningViews.{path_pointer}
use Rattle.evaluation_context.proofs.running_objects.RunningObjects.last_steps.Goals as goal

pub returns : goal.returns
unfolding path_pointer
returns c = c.last_steps.ensures ∙ ap (last_steps c.args.count) c.steps.ensures

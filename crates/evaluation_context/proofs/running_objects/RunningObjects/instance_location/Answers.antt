use Rattle.std.proofs.Common.{refl}
use Rattle.evaluation_context.specs.RunningViews.{instance_pointer}
use Rattle.evaluation_context.proofs.running_objects.RunningObjects.instance_location.Goals as goal

pub returns : goal.returns
unfolding instance_pointer
returns c = refl

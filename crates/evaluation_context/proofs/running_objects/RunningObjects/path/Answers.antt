use Rattle.std.proofs.Common.{refl}
use Rattle.evaluation_context.specs.RunningViews.{path_pointer}
use Rattle.evaluation_context.proofs.running_objects.RunningObjects.path.Goals as goal

pub returns : goal.returns
unfolding path_pointer
returns c = refl

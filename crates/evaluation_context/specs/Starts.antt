-- Where an evaluation begins.
use Rattle.std.specs.Prelude.{◌≡◌, []}
use Rattle.definitions.specs.Schemas.{Schema, identity}
use Rattle.basic_output.specs.PointerViews.{origin_view}
use Rattle.evaluation_context.specs.RunningViews.{instance_pointer, path_ends, path_pointer, running_objects}
use Rattle.evaluation_context.specs.declared.start.Start.{Start}

-- at this schema and at the whole instance, and nothing is being applied yet
pub record IsStart (start : Start) (root : Schema) : Type 0 where
  pub origin : origin_view start.origin.value ≡ identity root
  pub path : path_pointer start.running ≡ []
  pub instance_location : instance_pointer start.running ≡ []
  pub running : running_objects start.running ≡ []

-- The path, the instance location and the schema objects that are being applied, as the definitions have them.
use Rattle.std.specs.Prelude.{List, ℕ, map}
use Rattle.definitions.specs.Pointers.{Pointer}
use Rattle.definitions.specs.Schemas.{Identity}
use Rattle.definitions.specs.Applied.{InstanceLocation}
use Rattle.basic_output.specs.PointerViews.{pointer_view}
use Rattle.evaluation_context.specs.Runnings.{running_view}
use Rattle.evaluation_context.specs.declared.running_objects.RunningObjects.{RunningObjects}

unfoldable pub path_pointer : RunningObjects → Pointer
path_pointer o = pointer_view o.path

unfoldable pub instance_pointer : RunningObjects → Pointer
instance_pointer o = pointer_view o.instance_location

unfoldable pub running_objects : RunningObjects → List (Identity × InstanceLocation)
running_objects o = map (running_view (pointer_view o.path) (pointer_view o.instance_location)) o.entries.items

-- how long the paths to them are
unfoldable pub path_ends : RunningObjects → List ℕ
path_ends o = map (λ r. r.reach) o.entries.items

-- All that a context keeps, as lists of tokens; and where it stands.
use Rattle.std.specs.Prelude.{ℕ, List, ◌+◌, ◌-◌, ◌++◌, ◌∷◌, [], length, option_map}
use Rattle.definitions.specs.Values.{Text}
use Rattle.definitions.specs.Pointers.{Pointer}
use Rattle.definitions.specs.Schemas.{Identity}
use Rattle.definitions.specs.Applied.{InstanceLocation}
use Rattle.keyword_plans.specs.ScopeViews.{scope_uris}
use Rattle.evaluation_context.specs.Standings.{Standing}
use Rattle.basic_output.specs.PointerViews.{origin_view}
use Rattle.evaluation_context.specs.Runnings.{last_end, last_steps, steps_between}
use Rattle.evaluation_context.specs.RunningViews.{instance_pointer, path_ends, path_pointer, running_objects}
use Rattle.evaluation_context.specs.declared.context.Context.{Context}

pub record Frame : Type 0 where
  pub path : Pointer
  -- the schema that was entered last otherwise than by a step from the keyword above it
  pub origin : Identity
  -- how many of the path's last steps lead on from there
  pub onward : ℕ
  pub instance_location : InstanceLocation
  pub scope : List Text
  pub running : List (Identity × InstanceLocation)
  -- how many of the path's steps lead to each object that is being applied, from the one before it
  pub between : List ℕ
  -- how many lead on from the innermost
  pub beyond : ℕ

unfoldable pub context_view : Context → Frame
context_view c = record {
  path = path_pointer c.running;
  origin = origin_view c.origin.value;
  onward = c.onward;
  instance_location = record { pointer = instance_pointer c.running; name = option_map (λ n. n.now) c.name };
  scope = scope_uris c.scope;
  running = running_objects c.running;
  between = steps_between 0 (path_ends c.running);
  beyond = length (path_pointer c.running) - last_end 0 (path_ends c.running);
}

-- from the root of the origin's resource: to the origin, and from there on
abbrev pub frame_pointer : Frame → Pointer
frame_pointer f = f.origin.1 ++ last_steps f.onward f.path

unfoldable pub frame_standing : Frame → Standing
frame_standing f = record {
  path = f.path;
  resource = f.origin.0;
  pointer = frame_pointer f;
  instance_location = f.instance_location;
  scope = f.scope;
  running = f.running;
}

-- a schema object is being applied
unfoldable pub object_frame : Frame → Frame
object_frame f =
    record f { scope = f.scope ++ f.origin.0 ∷ []; running = f.running ++ ((f.origin.0, frame_pointer f), f.instance_location) ∷ []; between = f.between ++ f.beyond ∷ []; beyond = 0 }

-- at a keyword of the schema
unfoldable pub keyword_frame : Text → Frame → Frame
keyword_frame k f = record f { path = f.path ++ k ∷ []; onward = f.onward + 1; beyond = f.beyond + 1 }

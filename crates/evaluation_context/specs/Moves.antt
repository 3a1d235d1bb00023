-- Where a context stands after a move.
use Rattle.std.specs.Prelude.{◌≡◌, ◌+◌, ◌++◌, length, take}
use Rattle.definitions.specs.Values.{Text, Value}
use Rattle.definitions.specs.Pointers.{Pointer}
use Rattle.definitions.specs.Schemas.{Identity, Schema, schema_at}
use Rattle.definitions.specs.Applied.{InstanceLocation}
use Rattle.applicators.specs.Origins.{schema_at_origin}
use Rattle.applicators.specs.Plans.{way_view}
use Rattle.applicators.specs.declared.planned.Way.{Way}
use Rattle.applicators.specs.declared.planned.Way.TheVariants.{Own, Member, Element, Target}
use Rattle.evaluation_context.specs.Frames.{Frame}
use Rattle.evaluation_context.specs.Standings.{Standing}

-- further by these tokens
unfoldable pub frame_below : Pointer → Frame → Frame
frame_below way f = record f { path = f.path ++ way; onward = f.onward + length way; beyond = f.beyond + length way }

-- at this instance location
unfoldable pub frame_at : InstanceLocation → Frame → Frame
frame_at instance_location f = record f { instance_location = instance_location }

-- at another origin, from which no step leads on yet
unfoldable pub at_origin : Identity → Frame → Frame
at_origin origin f = record f { origin = origin; onward = 0 }

-- at this schema, so much further along the path
unfoldable pub standing_at : Pointer → Schema → Standing → Standing
standing_at way s st = record st { path = st.path ++ way; resource = s.resource; pointer = s.pointer }

-- the schema with the value v to which the way leads, in the resource and at the pointer of a keyword
abbrev pub schema_on_way : Text → Pointer → Way → Value → Schema
schema_on_way resource pointer Own v = schema_at resource (pointer ++ way_view Own) v
schema_on_way resource pointer (Member name) v = schema_at resource (pointer ++ way_view (Member name)) v
schema_on_way resource pointer (Element i) v = schema_at resource (pointer ++ way_view (Element i)) v
schema_on_way resource pointer (Target origin) v = schema_at_origin origin.value v

-- the older frame still stands in front of the newer one, but for its origin and its name
pub record Onward (older newer : Frame) : Type 0 where
  pub path : take (length older.path) newer.path ≡ older.path
  pub instance_location : take (length older.instance_location.pointer) newer.instance_location.pointer ≡ older.instance_location.pointer
  pub scope : newer.scope ≡ older.scope
  pub running : newer.running ≡ older.running
  pub between : newer.between ≡ older.between
  pub beyond : newer.beyond + length older.path ≡ older.beyond + length newer.path

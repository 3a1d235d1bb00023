-- The way back from what a keyword applied.
use Rattle.std.specs.Prelude.{◌≡◌, ◌≤◌, ◌+◌, ◌-◌, Option, true, length, min, option_map, take, unwrap_or}
use Rattle.std.specs.Global.{Global}
use Rattle.std.specs.declared.rc.Rc.{Rc}
use Rattle.definitions.specs.Schemas.{Identity}
use Rattle.basic_output.specs.PointerViews.{origin_view}
use Rattle.basic_output.specs.declared.origin.Origin.{Origin}
use Rattle.evaluation_context.specs.Frames.{Frame}
use Rattle.evaluation_context.specs.Runnings.{are_above}
use Rattle.evaluation_context.specs.declared.context.Return.{Return}

-- the origin that was left for another one; or this one, where none was
abbrev pub origin_before : Option (Rc Origin Global) → Identity → Identity
origin_before left origin = unwrap_or (option_map (λ o. origin_view o.value) left) origin

-- the newer frame, cut back
abbrev pub cut_frame : Return → Frame → Frame
cut_frame back newer = record newer {
  path = take back.path newer.path;
  origin = origin_before back.origin newer.origin;
  onward = min back.onward (length (take back.path newer.path));
  instance_location = record { pointer = take back.instance_location newer.instance_location.pointer; name = option_map (λ n. n.now) back.name };
  beyond = newer.beyond - (length newer.path - back.path);
}

-- the frame is the one that it was before, once it is cut back, and no schema object is being applied beyond that
pub record CameFrom (back : Return) (older newer : Frame) : Type 0 where
  pub cut : older ≡ cut_frame back newer
  pub above : are_above back.instance_location newer.running ≡ true
  pub within : length newer.path ≤ newer.beyond + back.path

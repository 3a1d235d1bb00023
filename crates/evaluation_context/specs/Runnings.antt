-- A schema object that is being applied, beside the path and the instance location.
use Rattle.std.specs.Prelude.{◌&&◌, ◌++◌, ◌-◌, Bool, List, [], ◌∷◌, ℕ, drop, length, nat_le, option_map, take}
use Rattle.std.specs.List.{list_all}
use Rattle.definitions.specs.Pointers.{Pointer}
use Rattle.definitions.specs.Schemas.{Identity, same_identity}
use Rattle.definitions.specs.Applied.{InstanceLocation}
use Rattle.definitions.specs.Outcomes.{same_location}
use Rattle.basic_output.specs.PointerViews.{origin_view}
use Rattle.basic_output.specs.declared.origin.Origin.{Origin}
use Rattle.evaluation_context.specs.declared.running.Running.{Running}

-- the last tokens, so many
abbrev pub last_steps : ℕ → Pointer → Pointer
last_steps n p = drop (length p - n) p

-- the schema to which these tokens lead on from the origin
abbrev pub onward_identity : Origin → Pointer → Identity
onward_identity origin onward = ((origin_view origin).0, (origin_view origin).1 ++ onward)

-- the schema of the object, whose path the path begins with
abbrev pub running_identity : Pointer → Running → Identity
running_identity path r = onward_identity r.origin.value (last_steps r.onward (take r.reach path))

-- the path and the instance location begin with those of the object
abbrev pub running_view : Pointer → Pointer → Running → Identity × InstanceLocation
running_view path location r =
    (running_identity path r, record { pointer = take r.depth location; name = option_map (λ n. n.now) r.name })

-- the object is this schema, applied at this instance location
abbrev pub is_running_as : Identity → InstanceLocation → Identity × InstanceLocation → Bool
is_running_as identity instance_location e = same_identity e.0 identity && same_location e.1 instance_location

-- their instance locations have so many steps at most
abbrev pub are_above : ℕ → List (Identity × InstanceLocation) → Bool
are_above n os = list_all (λ o. nat_le (length o.1.pointer) n) os

-- each ends where the one before it does, or further on, between the two numbers
abbrev pub are_laid : (Running → ℕ) → ℕ → ℕ → List Running → Bool
are_laid end from to [] = nat_le from to
are_laid end from to (r ∷ rs) = nat_le from (end r) && are_laid end (end r) to rs

-- the last of the ends, if there is one; or else the start
abbrev pub last_end : ℕ → List ℕ → ℕ
last_end from [] = from
last_end from (n ∷ ns) = last_end n ns

-- how far each end is from the one before it, and the first from the start
abbrev pub steps_between : ℕ → List ℕ → List ℕ
steps_between from [] = []
steps_between from (n ∷ ns) = (n - from) ∷ steps_between n ns

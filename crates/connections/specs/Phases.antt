-- How far the request at the front of a connection's bytes was read.
use Rattle.std.specs.Prelude.{◌≡◌}
use Rattle.definitions.specs.Values.{Text}
use Rattle.http_definitions.specs.Streams.{without_line_ends, IsHopeless, IsWaiting}
use Rattle.request_heads.specs.Searches.{IsSearched}
use Rattle.request_heads.specs.Fronts.{HasHeading}
use Rattle.connections.specs.Messages.{HasMessage}
use Rattle.connections.specs.declared.phases.Phase.{Phase}
use Rattle.connections.specs.declared.phases.Phase.TheVariants.{Searching, Reading}
use Rattle.connections.specs.declared.phases.Arrival.{Arrival}
use Rattle.connections.specs.declared.phases.Arrival.TheVariants.{Waiting, Hopeless, Whole}

-- so far the request at the front was read
abbrev pub IsOn : Text → Phase → Type 0
IsOn bytes (Searching s) = IsSearched bytes s
IsOn bytes (Reading x) = HasHeading bytes x

-- what an open connection holds: no line end stands at the front
abbrev pub IsHeld : Text → Phase → Type 0
IsHeld bytes p = (without_line_ends bytes ≡ bytes) × IsOn bytes p

-- what stands at the front is so
abbrev pub HasArrived : Text → Arrival → Type 0
HasArrived bytes (Waiting p) = IsOn bytes p × IsWaiting bytes
HasArrived bytes Hopeless = IsHopeless bytes
HasArrived bytes (Whole x) = HasMessage bytes x

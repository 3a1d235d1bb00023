-- A walk, and what it has visited.
use Rattle.std.specs.Prelude.{◌≡◌, List}
use Rattle.locations.specs.Hops.{Hop, step_hops}
use Rattle.schema_table.specs.Gathering.{Gathers}
use Rattle.schema_table.specs.Spots.{Spot}
use Rattle.schema_table.specs.declared.visit.Visit.{Visit}

-- the way to where it stands
abbrev pub visited_hops : Visit → List Hop
visited_hops v = step_hops v.way.items

-- the later has gathered of these schemas, too, and stands where the earlier stood
pub record Visits (earlier later : Visit) (ss : List Spot) : Type 0 where
  pub gathers : Gathers earlier.gathered later.gathered ss
  pub way : visited_hops later ≡ visited_hops earlier

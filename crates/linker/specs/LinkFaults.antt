-- Whether documents that a resource reaches can be linked.
use Rattle.std.specs.Prelude.{List, [], ◌∷◌, Option, Some, option_map}
use Rattle.definitions.specs.Faults.{Fault, not_found, unresolved}
use Rattle.definitions.specs.Schemas.{Document}
use Rattle.definitions.specs.Reach.{least, missing_references}

-- there are none; or the least of their references that name nothing
unfoldable pub link_fault : List Document → Option Fault
link_fault [] = Some not_found
link_fault (d ∷ ds) = option_map unresolved (least (missing_references (d ∷ ds)))

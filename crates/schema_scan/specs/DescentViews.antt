-- The steps of pointers in the code.
use Rattle.std.specs.Prelude.{◌∷◌, map, Option, Some, None, string_bytes}
use Rattle.definitions.specs.Values.{Value}
use Rattle.definitions.specs.Pointers.{Pointer}
use Rattle.definitions.specs.Lists.{option_list}
use Rattle.json_doc.specs.Docs.{value}
use Rattle.locations.specs.Steps.{tokens}
use Rattle.schema_scan.specs.Descents.{LeadsNowhere, StepsTo}
use Rattle.schema_scan.specs.declared.pointing.descending.Descent.{Descent}

-- the tokens that the step takes
abbrev pub tokens_taken : Descent → Pointer
tokens_taken d = d.keyword.now ∷ tokens (option_list d.step)

-- where the pointer leads first from a schema of this value: to what the step says, or nowhere
abbrev pub GoesOn : Pointer → Value → Option Descent → Type 0
GoesOn way v None = LeadsNowhere way v
GoesOn way v (Some d) = StepsTo way v (tokens_taken d) (value d.schema.now) (map string_bytes d.rest.now)

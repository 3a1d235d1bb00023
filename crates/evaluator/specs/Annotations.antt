-- The annotations of names that annotate with their own value.
use Rattle.std.specs.Prelude.{List, filter, map}
use Rattle.definitions.specs.Values.{Text, Value}
use Rattle.definitions.specs.Applied.{Application, OutputUnit}
use Rattle.definitions.specs.Evaluated.{is_annotation}
use Rattle.definitions.specs.Outcomes.{unit}

-- of some members of the application's schema object
abbrev pub annotations_among : Application → List (Text × Value) → List OutputUnit
annotations_among a ms = map (λ m. unit a m.0 m.1) (filter (λ m. is_annotation a.schema.value a.instance m.0) ms)

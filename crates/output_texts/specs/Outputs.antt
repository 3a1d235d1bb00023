-- The output of some units, as a value and as a text.
use Rattle.std.specs.Prelude.{List, [], ◌∷◌, ◌++◌, Bool, true, false, if◌then◌else◌, codes}
use Rattle.definitions.specs.Values.{Text, Value, boolean, object, to_members}
use Rattle.definitions.specs.Applied.{Outcome, OutputUnit}
use Rattle.definitions.specs.Answers.{units_value}
use Rattle.basic_output.specs.Pieces.{joined_texts}
use Rattle.basic_output.specs.Units.{unit_texts}
use Rattle.basic_output.specs.declared.units.Units.{Units}
use Rattle.output_texts.specs.declared.noted_units.NotedUnits.{NotedUnits}
use Rattle.output_texts.specs.declared.output.Output.{Output}

-- what an outcome reports: the annotations of a valid instance, or the errors of another
abbrev pub reported_units : Outcome → List OutputUnit
reported_units o = if o.valid then o.annotations else o.errors

-- the output with these units
abbrev pub units_output : Bool → List OutputUnit → Value
units_output valid us =
    object (to_members (
    (if valid then (codes "annotations", units_value (codes "annotation") us) else (codes "errors", units_value (codes "error") us))
    ∷ (codes "valid", boolean valid) ∷ []))

-- ---- as a text
-- what a unit is called
abbrev pub kind : Bool → Text
kind true = codes "annotation"
kind false = codes "error"

-- what stands before the units, and behind them
abbrev pub opening : Bool → Text
opening true = codes "{\"annotations\":["
opening false = codes "{\"errors\":["

abbrev pub ending : Bool → Text
ending true = codes "],\"valid\":true}"
ending false = codes "],\"valid\":false}"

-- the text of an output, by those of its units
abbrev pub text_around : Bool → List Text → Text
text_around valid ts = opening valid ++ (joined_texts ts ++ ending valid)

-- the units that count
abbrev pub counted_units : Bool → NotedUnits → Units
counted_units valid u = if valid then u.annotations else u.errors

-- whether the instance is valid, and the text
unfoldable pub output_view : Output → Bool × Text
output_view o = (o.valid, text_around o.valid (unit_texts (counted_units o.valid o.units.value)))

-- What was noted before anything is.
use Rattle.std.specs.Prelude.{◌≡◌, []}
use Rattle.basic_output.specs.Units.{unit_texts}
use Rattle.output_texts.specs.declared.noted_units.NotedUnits.{NotedUnits}

-- no units
pub record HasNoUnits (u : NotedUnits) : Type 0 where
  pub errors : unit_texts u.errors ≡ []
  pub annotations : unit_texts u.annotations ≡ []

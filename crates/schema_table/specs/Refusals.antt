-- Why a walk stops.
use Rattle.std.specs.Prelude.{◌≡◌, List, [], Some, Result, Ok, Err, reverse}
use Rattle.definitions.specs.Pointers.{Pointer}
use Rattle.definitions.specs.Lists.{first}
use Rattle.locations.specs.Steps.{tokens}
use Rattle.locations.specs.declared.step.Step.{Step}
use Rattle.schema_table.specs.Missteps.{Misstep, wrong_shape, wrong_id, wrong_anchor, wrong_dialect}
use Rattle.schema_table.specs.declared.refusal.Refusal.{Refusal}
use Rattle.schema_table.specs.declared.refusal.Refusal.TheVariants.{NoRoom, Shape, Id, Anchor, Dialect}

-- the pointer of these steps, the last one first
abbrev pub way_up : List Step → Pointer
way_up steps = reverse (tokens steps)

-- the walk stops at the first of these missteps, unless memory ran out
abbrev pub Refuses : Refusal → List Misstep → Type 0
Refuses NoRoom ms = Unit {0}
Refuses (Shape steps) ms = first ms ≡ Some (wrong_shape (way_up steps.items))
Refuses Id ms = first ms ≡ Some wrong_id
Refuses Anchor ms = first ms ≡ Some wrong_anchor
Refuses Dialect ms = first ms ≡ Some wrong_dialect

-- it ends after none of these missteps, or stops at the first
abbrev pub Ends : {T : Type 0} → Result T Refusal → List Misstep → Type 0
Ends (Ok t) ms = ms ≡ []
Ends (Err r) ms = Refuses r ms

-- Ways that own their names, as hops.
use Rattle.std.specs.Prelude.{List, [], flat_map, length, string_bytes}
use Rattle.definitions.specs.Values.{Text}
use Rattle.keywords.specs.Rows.{row_of}
use Rattle.locations.specs.Hops.{Hop}
use Rattle.locations.specs.OwnedSteps.{hops_along}
use Rattle.locations.specs.declared.step.Step.{Step}
use Rattle.locations.specs.declared.step.Step.TheVariants.{Name, Index, Keyword}
use Rattle.locations.specs.declared.owned_way.OwnedStep.{OwnedStep}
use Rattle.locations.specs.declared.owned_way.OwnedStep.TheVariants as owned
use Rattle.locations.specs.declared.owned_way.OwnedWay.{OwnedWay}

abbrev pub owned_hops : OwnedWay → List Hop
owned_hops way = hops_along way.steps.items (string_bytes way.names)

-- a step of a location as it is kept, and its name
abbrev pub owned_step : Step → OwnedStep
owned_step (Name name) = owned.Name (length name.now)
owned_step (Index index) = owned.Index index
owned_step (Keyword k) = owned.Name (length (row_of k).name)

abbrev pub step_name : Step → Text
step_name (Name name) = name.now
step_name (Index index) = []
step_name (Keyword k) = (row_of k).name

abbrev pub step_names : List Step → Text
step_names steps = flat_map step_name steps

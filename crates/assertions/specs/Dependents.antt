-- What `dependentRequired` asks, list by list.
use Rattle.std.specs.Prelude.{List, Option, Some, None, Bool, true, not, ◌||◌, is_some}
use Rattle.std.specs.List.{list_all}
use Rattle.definitions.specs.Values.{Text, Value, get}
use Rattle.definitions.specs.Assertions.{has_names}

-- for each name that is there, those that its list asks for
abbrev pub has_all_dependents : Value → List (Text × Value) → Bool
has_all_dependents x = list_all (λ d. not (is_some (get d.0 x)) || has_names x d.1)

-- the names of a list, if there is one
abbrev pub has_names_if : Value → Option Value → Bool
has_names_if x None = true
has_names_if x (Some names) = has_names x names

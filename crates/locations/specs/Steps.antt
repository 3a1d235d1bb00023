-- The steps of a location as the tokens of a pointer.
use Rattle.std.specs.Prelude.{ℕ, List, map, pos, decimal}
use Rattle.std.specs.Borrow.{Bor}
use Rattle.definitions.specs.Values.{Text, Value, integer, string}
use Rattle.keywords.specs.Rows.{row_of}
use Rattle.locations.specs.declared.step.Step.{Step}
use Rattle.locations.specs.declared.step.Step.TheVariants.{Name, Index, Keyword}

abbrev pub token : Step → Text
token (Name name) = name.now
token (Index index) = decimal index
token (Keyword k) = (row_of k).name

abbrev pub tokens : List Step → List Text
tokens steps = map token steps

-- the names and indexes as steps
abbrev pub named_steps : List (Bor Text) → List Step
named_steps names = map (λ name. Name name) names

abbrev pub indexed_steps : List ℕ → List Step
indexed_steps indexes = map (λ index. Index index) indexes

-- what stands for a step in a list of names or indexes
abbrev pub step_value : Step → Value
step_value (Name name) = string name.now
step_value (Index index) = integer (pos index)
step_value (Keyword k) = string (row_of k).name

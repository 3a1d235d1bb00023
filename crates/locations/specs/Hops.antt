-- The way from a document's root to a value in it.
use Rattle.std.specs.Prelude.{ℕ, List, [], ◌∷◌, Option, Some, option_and_then, slice_get, map, decimal}
use Rattle.definitions.specs.Values.{Text, Value, elements, get}
use Rattle.definitions.specs.Pointers.{Pointer}
use Rattle.keywords.specs.Rows.{row_of}
use Rattle.locations.specs.declared.step.Step.{Step}
use Rattle.locations.specs.declared.step.Step.TheVariants.{Name, Index, Keyword}

-- to a member by its name, or to an element by its index
pub data Hop : Type 0 where
  to_member : Text → Hop
  to_element : ℕ → Hop

abbrev pub hop_token : Hop → Text
hop_token (to_member name) = name
hop_token (to_element index) = decimal index

abbrev pub hop_tokens : List Hop → Pointer
hop_tokens way = map hop_token way

-- what stands there
abbrev pub hop_value : Hop → Value → Option Value
hop_value (to_member name) v = get name v
hop_value (to_element index) v = slice_get (elements v) index

abbrev pub follow : List Hop → Value → Option Value
follow [] v = Some v
follow (h ∷ hs) v = option_and_then (follow hs) (hop_value h v)

-- a step of a location as a hop
abbrev pub step_hop : Step → Hop
step_hop (Name name) = to_member name.now
step_hop (Index index) = to_element index
step_hop (Keyword k) = to_member (row_of k).name

abbrev pub step_hops : List Step → List Hop
step_hops steps = map step_hop steps

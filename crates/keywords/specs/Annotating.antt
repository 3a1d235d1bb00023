-- Which keywords annotate where they pass.
use Rattle.std.specs.Prelude.{[], ◌∷◌, Bool, ◌||◌, is_some}
use Rattle.definitions.specs.Values.{array, object, no_elements, no_members}
use Rattle.definitions.specs.Keywords.{Meaning}
use Rattle.definitions.specs.Applied.{Application, Outcome, Part}
use Rattle.definitions.specs.Evaluated.{annotation_of}

-- whether an empty object or array is annotated, to which a schema was applied
abbrev pub annotates : Application → Part × Outcome → Meaning → Bool
annotates a p meaning =
    is_some (annotation_of (record a { instance = object no_members }) meaning (p ∷ []))
    || is_some (annotation_of (record a { instance = array no_elements }) meaning (p ∷ []))

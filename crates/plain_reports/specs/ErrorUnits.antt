-- The errors of a Basic output, and which of them are causes.
use Rattle.std.specs.Prelude.{Bool, false, List, [], ◌∷◌, codes, length, map, option_and_then, unwrap_or, nat_eq, ◌==◌, ◌&&◌, ◌||◌, slice_index, if◌then◌else◌}
use Rattle.std.specs.List.{starts_with}
use Rattle.definitions.specs.Bytes.{slash}
use Rattle.definitions.specs.Values.{Text, Value, get, text_at}
use Rattle.json_doc.specs.Kinds.{as_elements}

pub record Unit : Type 0 where
  pub error : Text
  pub instance_location : Text
  pub keyword_location : Text
  pub absolute_location : Text

abbrev pub text_or_none : Text → Value → Text
text_or_none name v = unwrap_or (text_at name v) []

abbrev pub unit_in : Value → Unit
unit_in v =
    record { error = text_or_none (codes "error") v; instance_location = text_or_none (codes "instanceLocation") v; keyword_location = text_or_none (codes "keywordLocation") v; absolute_location = text_or_none (codes "absoluteKeywordLocation") v }

abbrev pub list_or_none : Text → Value → List Value
list_or_none name v = unwrap_or (option_and_then as_elements (get name v)) []

abbrev pub errors_in : Value → List Unit
errors_in v = map unit_in (list_or_none (codes "errors") v)

-- ---- causes
-- the second pointer is the first, or goes on from it
abbrev pub goes_on_from : Text → Text → Bool
goes_on_from above pointer = starts_with nat_eq pointer above && ((length pointer == length above) || (slice_index pointer (length above) == slash))

-- what the second unit says lies at or below what the first says, in the schema and in the instance
abbrev pub is_explained_by : Unit → Unit → Bool
is_explained_by u v = goes_on_from u.keyword_location v.keyword_location && goes_on_from u.instance_location v.instance_location

-- the first of those that follow the unit explains it
abbrev pub first_explains : Unit → List Unit → Bool
first_explains u [] = false
first_explains u (v ∷ vs) = is_explained_by u v

-- An output has a keyword's unit before those of the schemas that the keyword applied. So a unit that another explains is
-- explained by the one that follows it; all others are causes
abbrev pub causes : List Unit → List Unit
causes [] = []
causes (u ∷ us) = if first_explains u us then causes us else u ∷ causes us

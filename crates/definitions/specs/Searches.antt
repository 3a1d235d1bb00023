-- The patterns of a schema document, and what it takes that they mean something.
use Rattle.std.specs.Prelude.{Bool, List, Ok, Result, codes, false, flat_map, is_none, length, map, nat_lt, option_map, unwrap_or, ◌++◌, ◌&&◌, []}
use Rattle.std.specs.List.{list_all}
use Rattle.definitions.specs.Lists.{option_list}
use Rattle.definitions.specs.Values.{Text, Value, get, members, text_at}
use Rattle.definitions.specs.Faults.{Fault}
use Rattle.definitions.specs.Schemas.{Schema, schemas_of}
use Rattle.definitions.specs.Scanning.{scan_fault}

-- what a pattern means: whether the grammar reads it, and whether it matches somewhere in a text
pub record Search : Type 0 where
  pub reads : Text → Bool
  pub matches : Text → Text → Bool

-- what stands under `pattern`, and the names under `patternProperties`
abbrev pub patterns_of : Schema → List Text
patterns_of s =
    option_list (text_at (codes "pattern") s.value)
    ++ unwrap_or (option_map (λ v. map (λ m. m.0) (members v)) (get (codes "patternProperties") s.value)) []

-- they don't hang on the base
abbrev pub patterns : Value → List Text
patterns v = flat_map patterns_of (schemas_of [] v)

-- the grammar reads all patterns
abbrev pub is_regular : Search → Value → Bool
is_regular search v = list_all search.reads (patterns v)

abbrev pub has_patterns : Value → Bool
has_patterns v = nat_lt 0 (length (patterns v))

-- a document that has patterns, with no fault before they are built
abbrev pub builds : Search → Result Text Fault → Result Value Fault → Bool
builds search (Ok base) (Ok v) = is_none (scan_fault base v) && (has_patterns v && is_regular search v)
builds search _ _ = false

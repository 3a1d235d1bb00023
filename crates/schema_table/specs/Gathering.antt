-- What the walk gathers of the schemas that it comes by.
use Rattle.std.specs.Prelude.{ℕ, ◌≡◌, List, ◌++◌, Bool, true, false, Option, Some, None, if◌then◌else◌, codes, filter, flat_map, map, option_map, string_bytes, unwrap_or, []}
use Rattle.definitions.specs.Values.{Text, Value, same_text, text_at}
use Rattle.definitions.specs.Resolution.{target_uri}
use Rattle.definitions.specs.Lists.{option_list}
use Rattle.locations.specs.Hops.{Hop}
use Rattle.schema_table.specs.Spots.{Spot, at_root, id_of}
use Rattle.locations.specs.Ways.{owned_hops}
use Rattle.schema_table.specs.declared.anchors.Anchor.{Anchor}
use Rattle.schema_table.specs.PatternTexts.{patterns_at}
use Rattle.schema_table.specs.declared.gathered.Gathered.{Gathered}
use Rattle.schema_table.specs.declared.table.SchemaTable.{SchemaTable}

-- ---- roots
abbrev pub root_uris : List Spot → List Text
root_uris ss = map (λ s. s.resource) (filter at_root ss)

abbrev pub root_ways : List Spot → List (List Hop)
root_ways ss = map (λ s. s.way) (filter at_root ss)

-- the `$id` of each, or no text
unfoldable pub identifier_at : Value → Text
identifier_at v = unwrap_or (id_of v) []

abbrev pub root_identifiers : List Spot → List Text
root_identifiers ss = map (λ s. identifier_at s.value) (filter at_root ss)

-- ---- references (Core, 8.2.3)
abbrev pub reference_under : Text → Text → Value → List Text
reference_under keyword base v = option_list (option_map (target_uri base) (text_at keyword v))

unfoldable pub references_at : Text → Value → List Text
references_at base v = reference_under (codes "$ref") base v ++ reference_under (codes "$dynamicRef") base v

abbrev pub spot_references : Spot → List Text
spot_references s = references_at s.resource s.value

-- as they stand
abbrev pub text_under : Text → Value → List Text
text_under keyword v = option_list (text_at keyword v)

unfoldable pub texts_at : Value → List Text
texts_at v = text_under (codes "$ref") v ++ text_under (codes "$dynamicRef") v

abbrev pub spot_texts : Spot → List Text
spot_texts s = texts_at s.value

-- ---- patterns (Core, 10.3.2.2; Validation, 6.3.3)
abbrev pub spot_patterns : Spot → List Text
spot_patterns s = patterns_at s.value

-- ---- anchors (Core, 8.2.2)
pub record Mark : Type 0 where
  pub name : Text
  pub dynamic : Bool
  pub resource : Text
  pub start : ℕ
  pub way : List Hop

abbrev pub mark : Bool → Spot → Text → Mark
mark dynamic s name = record { name = name; dynamic = dynamic; resource = s.resource; start = s.start; way = s.way }

-- one name under both keywords is one anchor, and a dynamic one: the name that stands under `$anchor` alone
abbrev pub plain_name : Option Text → Option Text → Option Text
plain_name (Some n) (Some m) = if same_text n m then None else Some n
plain_name plain dynamic = plain

abbrev pub marks_named : Bool → Spot → Option Text → List Mark
marks_named dynamic s name = map (mark dynamic s) (option_list name)

unfoldable pub marks : Spot → List Mark
marks s =
    marks_named false s (plain_name (text_at (codes "$anchor") s.value) (text_at (codes "$dynamicAnchor") s.value))
    ++ marks_named true s (text_at (codes "$dynamicAnchor") s.value)

-- the URI of its resource, and its name
abbrev pub mark_pair : Mark → Text × Text
mark_pair m = (m.resource, m.name)

abbrev pub anchor_mark : Anchor → Mark
anchor_mark a = record { name = string_bytes a.name; dynamic = a.dynamic; resource = string_bytes a.resource; start = a.start; way = owned_hops a.way }

-- ---- the table
unfoldable pub table_uris : SchemaTable → List Text
table_uris g = map string_bytes g.uris.items

unfoldable pub table_ways : SchemaTable → List (List Hop)
table_ways g = map owned_hops g.ways.items

unfoldable pub table_identifiers : SchemaTable → List Text
table_identifiers g = map string_bytes g.identifiers.items

unfoldable pub table_texts : SchemaTable → List Text
table_texts g = map string_bytes g.texts.items

unfoldable pub table_references : SchemaTable → List Text
table_references g = map string_bytes g.references.items

unfoldable pub table_marks : SchemaTable → List Mark
table_marks g = map anchor_mark g.anchors.items

-- the later has what the earlier has, and what is kept of these schemas
pub record Extends (earlier later : SchemaTable) (ss : List Spot) : Type 0 where
  pub uris : table_uris later ≡ table_uris earlier ++ root_uris ss
  pub ways : table_ways later ≡ table_ways earlier ++ root_ways ss
  pub identifiers : table_identifiers later ≡ table_identifiers earlier ++ root_identifiers ss
  pub references : table_references later ≡ table_references earlier ++ flat_map spot_references ss
  pub texts : table_texts later ≡ table_texts earlier ++ flat_map spot_texts ss
  pub marks : table_marks later ≡ table_marks earlier ++ flat_map marks ss

-- all that is kept is of these schemas
pub record IsTableOf (t : SchemaTable) (ss : List Spot) : Type 0 where
  pub uris : table_uris t ≡ root_uris ss
  pub ways : table_ways t ≡ root_ways ss
  pub identifiers : table_identifiers t ≡ root_identifiers ss
  pub references : table_references t ≡ flat_map spot_references ss
  pub texts : table_texts t ≡ flat_map spot_texts ss
  pub marks : table_marks t ≡ flat_map marks ss

-- the texts of the patterns that were gathered beside the table
unfoldable pub gathered_patterns : Gathered → List Text
gathered_patterns g = map (λ t. t.now) g.patterns.items

-- the later has what the earlier has, and what is gathered of these schemas: the table's part, and the patterns' texts
pub record Gathers (earlier later : Gathered) (ss : List Spot) : Type 0 where
  pub table : Extends earlier.table later.table ss
  pub patterns : gathered_patterns later ≡ gathered_patterns earlier ++ flat_map spot_patterns ss

-- all that is gathered is of these schemas
pub record IsGathered (g : Gathered) (ss : List Spot) : Type 0 where
  pub table : IsTableOf g.table ss
  pub patterns : gathered_patterns g ≡ flat_map spot_patterns ss

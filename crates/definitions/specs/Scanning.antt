-- The first fault of a schema document (JSON Schema 2020-12 Core, 8 to 10).
use Rattle.std.specs.Prelude.{ℕ, suc, zero, List, [], ◌∷◌, ◌++◌, Bool, true, false, ◌&&◌, ◌||◌, not, if◌then◌else◌, Option, Some, None, nat_lt, codes, map, flat_map, filter}
use Rattle.std.specs.List.{list_any}
use Rattle.definitions.specs.Limits.{limits}
use Rattle.definitions.specs.Lists.{has_repeat, option_list, first, unless, when}
use Rattle.definitions.specs.Values.{Text, Value, string, same_text, text_at, members, is_object, nesting}
use Rattle.definitions.specs.Faults.{Fault, not_object, too_nested, bad_keyword, bad_id, bad_anchor, dialect, duplicate_uri, duplicate_anchor}
use Rattle.definitions.specs.Pointers.{Pointer, pointer_text}
use Rattle.definitions.specs.Uris.{split, is_identifier}
use Rattle.definitions.specs.Resolution.{resolve}
use Rattle.definitions.specs.Shapes.{Shape, has_shape, is_anchor_name, identifier, anchor_name}
use Rattle.definitions.specs.Keywords.{Keyword, keywords, keyword_named}
use Rattle.definitions.specs.Schemas.{Schema, schema_at, schemas_of, subschemas_by, is_root}
use Rattle.definitions.specs.Shapes as shapes

-- ---- the values of the core keywords (8.1.1, 8.2.1)
abbrev pub dialects : List Text
dialects = codes "https://json-schema.org/draft/2020-12/schema" ∷ codes "https://json-schema.org/draft/2020-12/schema#" ∷ []

abbrev pub is_dialect : Value → Bool
is_dialect (string s) = list_any (same_text s) dialects
is_dialect _ = false

abbrev pub is_empty_fragment : Option Text → Bool
is_empty_fragment None = true
is_empty_fragment (Some []) = true
is_empty_fragment (Some (c ∷ cs)) = false

-- no fragment but an empty one, and what it resolves to is an identifier
abbrev pub is_id : Text → Value → Bool
is_id base (string s) =
    is_empty_fragment ((split s).fragment) && is_identifier (record (resolve (split base) (split s)) { fragment = None })
is_id base _ = false

-- ---- one walk: each schema object's keywords in byte order, and then its subschemas

-- of a keyword of this shape, whose pointer from the document's root is `way`, in the schema s inside this base
abbrev pub shape_faults : Shape → Text → Pointer → Schema → Value → List Fault
shape_faults identifier base way s v = unless (is_id base v) bad_id
shape_faults anchor_name base way s v = unless (is_anchor_name v) bad_anchor
shape_faults shapes.dialect base way s v = unless (is_dialect v || not (is_root s)) dialect
shape_faults shape base way s v = unless (has_shape shape v) (bad_keyword (pointer_text way))

abbrev pub keyword_faults : Option Keyword → Text → Pointer → Schema → Value → List Fault
keyword_faults None base way s v = []
keyword_faults (Some k) base way s v = shape_faults k.shape base way s v

-- so many levels; `way` leads from the document's root to the schema, and the base is that of the schema around
abbrev pub subtree_faults : ℕ → Text → Pointer → Schema → List Fault
subtree_faults zero base way s = []
subtree_faults (suc n) base way s =
    flat_map (λ m. keyword_faults (keyword_named m.0 keywords) base (way ++ m.0 ∷ []) s m.1) (members s.value)
    ++ flat_map (λ t. subtree_faults n s.resource (way ++ t.0) t.1) (subschemas_by keywords s)

-- of the document's form
abbrev pub form_faults : Text → Value → List Fault
form_faults base v =
    unless (is_object v) not_object
    ++ (when (nat_lt limits.schema_nesting (nesting v)) too_nested
    ++ subtree_faults (suc (nesting v)) base [] (schema_at base [] v))

-- ---- names that stand twice
-- the URIs that the schemas open
abbrev pub resource_uris : List Schema → List Text
resource_uris table = map (λ s. s.resource) (filter is_root table)

-- the names of one object: one name under both keywords is one anchor
abbrev pub anchor_names : Option Text → Option Text → List Text
anchor_names (Some n) (Some m) = if same_text n m then n ∷ [] else n ∷ m ∷ []
anchor_names n m = option_list n ++ option_list m

abbrev pub anchors_of : Schema → List (Text × Text)
anchors_of s = map (λ n. (s.resource, n)) (anchor_names (text_at (codes "$anchor") s.value) (text_at (codes "$dynamicAnchor") s.value))

abbrev pub same_anchor : Text × Text → Text × Text → Bool
same_anchor a b = same_text a.0 b.0 && same_text a.1 b.1

abbrev pub name_faults : List Schema → List Fault
name_faults table =
    when (has_repeat same_text (resource_uris table)) duplicate_uri
    ++ when (has_repeat same_anchor (flat_map anchors_of table)) duplicate_anchor

-- ---- all of them, in the order in which the first one counts
abbrev pub scan_faults : Text → Value → List Fault
scan_faults base v = form_faults base v ++ name_faults (schemas_of base v)

abbrev pub scan_fault : Text → Value → Option Fault
scan_fault base v = first (scan_faults base v)

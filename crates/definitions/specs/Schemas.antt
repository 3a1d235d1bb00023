-- Schemas, resources and identity (JSON Schema 2020-12 Core, sections 8, 10 and 11).
use Rattle.std.specs.Prelude.{ℕ, suc, zero, List, [], ◌∷◌, ◌++◌, Bool, Option, Some, None, ◌==◌, ◌&&◌, length, option_map, codes, map, flat_map, decimal}
use Rattle.std.specs.List.{enumerate_from}
use Rattle.definitions.specs.Lists.{option_list}
use Rattle.definitions.specs.Values.{Text, Value, text_at, elements, members, nesting, same_text}
use Rattle.definitions.specs.Pointers.{Pointer, same_pointer}
use Rattle.definitions.specs.Uris.{without_fragment}
use Rattle.definitions.specs.Resolution.{target_uri}
use Rattle.definitions.specs.Shapes.{Shape, one_schema, schema_list, schema_map}
use Rattle.definitions.specs.Keywords.{Keyword, keywords, shape_in}

-- ---- a schema, by its identity (the URI of the nearest resource around it, and the pointer from that resource's root)
-- and its value
pub record Schema : Type 0 where
  pub resource : Text
  pub pointer : Pointer
  pub value : Value

-- 8.2.1: `$id` opens a resource, whose URI is the base from here on
abbrev pub opened_schema : Text → Pointer → Value → Option Text → Schema
opened_schema base pointer v None = record { resource = base; pointer = pointer; value = v }
opened_schema base pointer v (Some id) = record { resource = without_fragment (target_uri base id); pointer = []; value = v }

-- the schema that stands there
abbrev pub schema_at : Text → Pointer → Value → Schema
schema_at base pointer v = opened_schema base pointer v (text_at (codes "$id") v)

-- the schema that stands below by these tokens
abbrev pub below : Schema → Pointer → Value → Schema
below s tokens v = schema_at s.resource (s.pointer ++ tokens) v

-- ---- the schemas at a keyword's value, each with its tokens from the schema around
abbrev pub at_place : Schema → Text → Value → Shape → List (Pointer × Schema)
at_place s keyword v one_schema = (keyword ∷ [], below s (keyword ∷ []) v) ∷ []
at_place s keyword v schema_list = map (λ e. let way = keyword ∷ decimal e.0 ∷ [] in (way, below s way e.1)) (enumerate_from 0 (elements v))
at_place s keyword v schema_map = map (λ m. let way = keyword ∷ m.0 ∷ [] in (way, below s way m.1)) (members v)
at_place s keyword v _ = []

-- in byte order of keywords; where schemas stand is read off the keywords' shapes
abbrev pub subschemas_by : List Keyword → Schema → List (Pointer × Schema)
subschemas_by rows s = flat_map (λ m. at_place s m.0 m.1 (shape_in rows m.0)) (members s.value)

-- the schema and all below it, so many levels, each with the tokens that lead to it
abbrev pub schemas_within : List Keyword → ℕ → Pointer → Schema → List (Pointer × Schema)
schemas_within rows zero way s = []
schemas_within rows (suc n) way s = (way, s) ∷ flat_map (λ t. schemas_within rows n (way ++ t.0) t.1) (subschemas_by rows s)

abbrev pub schemas_by : List Keyword → Schema → List (Pointer × Schema)
schemas_by rows s = schemas_within rows (suc (nesting s.value)) [] s

abbrev pub schemas_from : Schema → List (Pointer × Schema)
schemas_from = schemas_by keywords

-- ---- a document: the URI of its root resource, the base form of the URI that it was put under, and its value
pub record Document : Type 0 where
  pub canonical : Text
  pub base : Text
  pub value : Value

abbrev pub document_from : Text → Value → Document
document_from base v = record { canonical = (schema_at base [] v).resource; base = base; value = v }

abbrev pub schemas_of : Text → Value → List Schema
schemas_of base v = map (λ t. t.1) (schemas_from (schema_at base [] v))

-- the schemas of all documents
abbrev pub table_of : List Document → List Schema
table_of = flat_map (λ d. schemas_of d.base d.value)

abbrev pub is_root : Schema → Bool
is_root s = (length s.pointer) == 0

abbrev pub Identity : Type 0
Identity = Text × Pointer

abbrev pub identity : Schema → Identity
identity s = (s.resource, s.pointer)

abbrev pub same_identity : Identity → Identity → Bool
same_identity i j = same_text i.0 j.0 && same_pointer i.1 j.1

-- ---- 8.2.3: an absolute reference is the keyword's text, resolved against the schema's base
abbrev pub reference_at : Text → Schema → Option Text
reference_at keyword s = option_map (target_uri s.resource) (text_at keyword s.value)

abbrev pub references : Schema → List Text
references s = option_list (reference_at (codes "$ref") s) ++ option_list (reference_at (codes "$dynamicRef") s)

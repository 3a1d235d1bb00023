-- What a schema's identity says (JSON Schema 2020-12 Core, 8.2.1 and 8.2.3): in a table whose resources have distinct
-- URIs it names one schema, which the resource's root and the pointer lead to.
use Rattle.std.specs.Prelude.{◌≡◌, ◌^◌, List, Bool, true, false, ◌&&◌, Some, IsTrue, Contains, length, nat_lt, option_and_then}
use Rattle.definitions.specs.Values.{Value, null, boolean, integer, string, array, object, Elements, no_elements, element, Members, no_members, member, elements_list, is_well_formed, same_text}
use Rattle.definitions.specs.Lists.{has_repeat}
use Rattle.definitions.specs.Schemas.{Schema, Document, identity, is_root, table_of}
use Rattle.definitions.specs.Scanning.{resource_uris}
use Rattle.definitions.specs.Targets.{resource_root, schema_at_pointer}

-- each array has less than 2 ^ 64 elements: so far places differ in their decimal text
abbrev mutual
  pub has_short_arrays : Value → Bool
  has_short_arrays null = true
  has_short_arrays (boolean b) = true
  has_short_arrays (integer z) = true
  has_short_arrays (string s) = true
  has_short_arrays (array vs) = nat_lt (length (elements_list vs)) (2 ^ 64) && have_short_arrays vs
  has_short_arrays (object ms) = members_have_short_arrays ms

  pub have_short_arrays : Elements → Bool
  have_short_arrays no_elements = true
  have_short_arrays (element v vs) = has_short_arrays v && have_short_arrays vs

  pub members_have_short_arrays : Members → Bool
  members_have_short_arrays no_members = true
  members_have_short_arrays (member n v ms) = has_short_arrays v && members_have_short_arrays ms

-- names stand once, and so do places' texts
pub record IsDefinite (v : Value) : Type 0 where
  pub well_formed : IsTrue (is_well_formed v)
  pub short_arrays : IsTrue (has_short_arrays v)

-- documents whose schemas have distinct resource URIs
pub record IsDistinct (ds : List Document) : Type 0 where
  pub uris : has_repeat same_text (resource_uris (table_of ds)) ≡ false
  pub values : (d : Document) → Contains ds d → IsDefinite d.value

abbrev pub IdentityNamesOneSchema : Type 0
IdentityNamesOneSchema =
    (ds : List Document) → IsDistinct ds →
    (s t : Schema) → Contains (table_of ds) s → Contains (table_of ds) t → identity s ≡ identity t → s ≡ t

abbrev pub RootsAreFound : Type 0
RootsAreFound =
    (ds : List Document) → has_repeat same_text (resource_uris (table_of ds)) ≡ false →
    (r : Schema) → Contains (table_of ds) r → IsTrue (is_root r) → resource_root (table_of ds) r.resource ≡ Some r

-- the resource's root and the pointer lead to the schema
abbrev pub SchemasArePointedTo : Type 0
SchemasArePointedTo =
    (ds : List Document) → IsDistinct ds →
    (s : Schema) → Contains (table_of ds) s → option_and_then (schema_at_pointer s.pointer) (resource_root (table_of ds) s.resource) ≡ Some s

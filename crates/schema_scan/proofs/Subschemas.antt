-- The schemas of a document: with one, those below it, and the URIs that they open.
use Rattle.std.proofs.Common.{◌≡◌, ◌&&◌, ◌++◌, suc, List, [], true, Some, None, is_some, codes, ap, subst, arith}
use Rattle.std.specs.List.{Contains}
use Rattle.definitions.specs.Values.{Text, Value, nesting, same_text, text_at}
use Rattle.definitions.specs.Pointers.{Pointer}
use Rattle.definitions.specs.Uris.{without_fragment}
use Rattle.definitions.specs.Resolution.{target_uri}
use Rattle.definitions.specs.Keywords.{keywords}
use Rattle.definitions.specs.Schemas.{Schema, schema_at, below, opened_schema, subschemas_by, schemas_from, schemas_of, is_root}
use Rattle.definitions.specs.Targets.{resource_root}
use Rattle.lemmas.proofs.Texts.{same_text_itself}
use Rattle.definition_laws.proofs.Occurrences.{in_from_contains, contains_from_in, in_map, into_map, found_somewhere}
use Rattle.definition_laws.proofs.Places.{step_from, IsBelow, below_more}
use Rattle.definition_laws.proofs.Roots.{within_from, within_to, pointer_root}

pub with_below : (base : Text) (v : Value) (s t : Schema) (way : Pointer) → Contains (schemas_of base v) s → Contains (subschemas_by keywords s) (way, t) → Contains (schemas_of base v) t
with_below base v s t way c d =
    let top : Schema = schema_at base [] v in
    let r = in_map (λ x. x.1) (schemas_from top) s (in_from_contains (schemas_of base v) s c) in
    let q = within_from keywords (suc (nesting top.value)) [] top r.0 r.1 in
    let step = step_from keywords s t way (in_from_contains (subschemas_by keywords s) (way, t) d) in
    let more = below_more keywords top s t q.0 way (subst (λ x. IsBelow keywords top x q.0) r.2 q.2) step in
    contains_from_in (schemas_of base v) t
    (into_map (λ (x : Pointer × Schema). x.1) (schemas_from top) (q.0 ++ way, t) (within_to keywords (suc (nesting top.value)) [] top t (q.0 ++ way) (omega arith) more))

pub root_held : (table : List Schema) (s : Schema) → Contains table s → s.pointer ≡ [] → is_some (resource_root table s.resource) ≡ true
root_held table s c e =
    found_somewhere (λ t. same_text s.resource t.resource && is_root t) table s (in_from_contains table s c) (rw (same_text_itself s.resource) (pointer_root s e))

-- ---- the schema below, by its `$id`
pub below-opened : (s : Schema) (way : Pointer) (v : Value) (id : Text) → text_at (codes "$id") v ≡ Some id
    → below s way v ≡ record { resource = without_fragment (target_uri s.resource id); pointer = []; value = v }
below-opened s way v id e = ap (opened_schema s.resource (s.pointer ++ way) v) e

pub below-inside : (s : Schema) (way : Pointer) (v : Value) → text_at (codes "$id") v ≡ None
    → below s way v ≡ record { resource = s.resource; pointer = s.pointer ++ way; value = v }
below-inside s way v e = ap (opened_schema s.resource (s.pointer ++ way) v) e

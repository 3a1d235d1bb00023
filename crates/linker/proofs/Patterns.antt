-- The patterns of a document, which don't hang on its base.
use Rattle.std.proofs.Common.{◌≡◌, ◌++◌, [], List, Contains, refl, sym, ap, subst, ◌∙◌, suc, arith}
use Rattle.definitions.specs.Keywords.{Keyword, keywords}
use Rattle.definitions.specs.Pointers.{Pointer}
use Rattle.definitions.specs.Searches.{patterns, patterns_of}
use Rattle.definitions.specs.Schemas.{Schema, below, schema_at, schemas_from, schemas_of}
use Rattle.definitions.specs.Values.{Text, Value, members, nesting}
use Rattle.definition_laws.proofs.Occurrences.{IsIn, in_from_contains, contains_from_in, in_map, into_map}
use Rattle.definition_laws.proofs.Places.{IsStep, IsBelow, here, further, value-below, value-opened}
use Rattle.definition_laws.proofs.Repeats.{in_flat_map}
use Rattle.definition_laws.proofs.Roots.{within_from, within_to}

-- what stands below a schema stands below another of the same value
mirrored : (rows : List Keyword) (s t : Schema) (way : Pointer) → IsBelow rows s t way → (r : Schema) → r.value ≡ s.value
    → (u : Schema) × (IsBelow rows r u way × (u.value ≡ t.value))
mirrored rows s t way (here e f) r v = (r, (here refl f, v ∙ ap (λ x. x.value) e))
mirrored rows s t way (further {t = m} {way = first} {rest = rest} step more w) r v =
    let other : IsStep rows r (below r first step.part) first = record {
      name = step.name;
      value = step.value;
      rest = step.rest;
      part = step.part;
      inside = subst (λ x. IsIn (step.name, step.value) (members x)) (sym v) step.inside;
      place = step.place;
      way_is = step.way_is;
      is = refl;
    } in
    let value_is : (below r first step.part).value ≡ m.value = value-below r first step.part ∙ sym (value-below s first step.part) ∙ sym (ap (λ x. x.value) step.is) in
    let q = mirrored rows m t rest more (below r first step.part) value_is in
    (q.0, (further other q.1.0 w, q.1.1))

pub document_pattern : (base : Text) (v : Value) (s : Schema) (text : Text) → Contains (schemas_of base v) s → Contains (patterns_of s) text → Contains (patterns v) text
document_pattern base v s text c k =
    let top : Schema = schema_at base [] v in
    let other : Schema = schema_at [] [] v in
    let x = in_map (λ t. t.1) (schemas_from top) s (in_from_contains (schemas_of base v) s c) in
    let way = within_from keywords (suc (nesting top.value)) [] top x.0 x.1 in
    let same : other.value ≡ top.value = value-opened [] [] v _ ∙ sym (value-opened base [] v _) in
    let u = mirrored keywords top x.0.1 way.0 way.2 other same in
    let stands : IsIn u.0 (schemas_of [] v) =
    into_map (λ t. t.1) (schemas_from other) ([] ++ way.0, u.0) (within_to keywords (suc (nesting other.value)) [] other u.0 way.0 (omega arith) u.1.0) in
    let value_is : s.value ≡ u.0.value = ap (λ y. y.value) (sym x.2) ∙ sym u.1.1 in
    in_flat_map patterns_of u.0 text (schemas_of [] v) (contains_from_in (schemas_of [] v) u.0 stands)
    (subst (λ w. Contains (patterns_of (record { resource = []; pointer = []; value = w })) text) value_is k)

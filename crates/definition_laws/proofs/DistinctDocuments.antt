-- Kept documents that are values of bodies have distinct resource URIs and definite values.
use Rattle.std.proofs.Common.{List, ◌≡◌, ℕ, ◌<◌, ◌^◌, Bool, true, length, nat_lt, nat_le, filter, Contains, lt-ltb, lt_of_le_of_lt, lit<, refl, ap, ◌∙◌, subst}
use Rattle.std.proofs.lemmas.Bool.{and_from, and_parts, leb-true}
use Rattle.definitions.specs.Values.{Text, Value, null, boolean, integer, string, array, object, Elements, no_elements, element, Members, no_members, member, elements_list, same_text}
use Rattle.definitions.specs.Lists.{has_repeat}
use Rattle.definitions.specs.Schemas.{Document}
use Rattle.definitions.specs.Reach.{reach}
use Rattle.definitions.specs.Searches.{Search}
use Rattle.definitions.specs.Keeping.{AreKept}
use Rattle.definition_laws.specs.Identities.{has_short_arrays, have_short_arrays, members_have_short_arrays, IsDefinite, IsDistinct}
use Rattle.definition_laws.specs.Reading.{has_arrays_within, have_arrays_within, members_have_arrays_within}
use Rattle.definition_laws.specs.Keeping.{IsBodyValue, HaveBodyValues}
use Rattle.definition_laws.proofs.Membership.{from_filter}
use Rattle.definition_laws.proofs.ReachedSets.{reach_as_filter}
use Rattle.definition_laws.proofs.Resources.{table_uris}
use Rattle.definition_laws.proofs.KeptReaches.{reached_kept}

mutual
  value_short : (n : ℕ) → n < 2 ^ 64 → (v : Value) → has_arrays_within n v ≡ true → has_short_arrays v ≡ true
  value_short n fits null h = refl
  value_short n fits (boolean b) h = refl
  value_short n fits (integer z) h = refl
  value_short n fits (string s) h = refl
  value_short n fits (array vs) h =
      let parts = and_parts (nat_le (length (elements_list vs)) n) (have_arrays_within n vs) h in
      and_from (nat_lt (length (elements_list vs)) (2 ^ 64)) (have_short_arrays vs)
      (lt-ltb (length (elements_list vs)) (2 ^ 64) (lt_of_le_of_lt (leb-true (length (elements_list vs)) n parts.0) fits)) (elements_short n fits vs parts.1)
  value_short n fits (object ms) h = members_short n fits ms h

  elements_short : (n : ℕ) → n < 2 ^ 64 → (vs : Elements) → have_arrays_within n vs ≡ true → have_short_arrays vs ≡ true
  elements_short n fits no_elements h = refl
  elements_short n fits (element v vs) h =
      let parts = and_parts (has_arrays_within n v) (have_arrays_within n vs) h in
      and_from (has_short_arrays v) (have_short_arrays vs) (value_short n fits v parts.0) (elements_short n fits vs parts.1)

  members_short : (n : ℕ) → n < 2 ^ 64 → (ms : Members) → members_have_arrays_within n ms ≡ true → members_have_short_arrays ms ≡ true
  members_short n fits no_members h = refl
  members_short n fits (member k v ms) h =
      let parts = and_parts (has_arrays_within n v) (members_have_arrays_within n ms) h in
      and_from (has_short_arrays v) (members_have_short_arrays ms) (value_short n fits v parts.0) (members_short n fits ms parts.1)

definite : (v : Value) → IsBodyValue v → IsDefinite v
definite v body = record { well_formed = body.well_formed; short_arrays = value_short 1048576 (lit< tt) v body.short_arrays }

pub kept_distinct_schemas : (search : Search) (ds : List Document) → AreKept search ds → HaveBodyValues ds → IsDistinct ds
kept_distinct_schemas search ds kept held = record {
  uris = ap (has_repeat same_text) (table_uris ds) ∙ kept.distinct;
  values = λ d c. definite d.value (held d c);
}

reached_held : (ds : List Document) (uri : Text) → HaveBodyValues ds → HaveBodyValues (reach ds uri)
reached_held ds uri held d c =
    let part : (p : Document → Bool) × (reach ds uri ≡ filter p ds) = reach_as_filter ds uri in
    held d (from_filter part.0 d ds (subst (λ es. Contains es d) part.1 c)).0

pub reached_distinct_schemas : (search : Search) (ds : List Document) (uri : Text) → AreKept search ds → HaveBodyValues ds → IsDistinct (reach ds uri)
reached_distinct_schemas search ds uri kept held = kept_distinct_schemas search (reach ds uri) (reached_kept search ds uri kept) (reached_held ds uri held)

-- What stands in a document has its number there.
use Rattle.std.proofs.Common.{◌≡◌, ◌⊎◌, ◌++◌, ℕ, List, [], ◌∷◌, Option, Some, None, Contains, codes, filter, map, option_map, unwrap_or, sym, ap, ◌∙◌, subst, inl, inr, true}
use Rattle.std.proofs.lemmas.Option.{get_or_from_slice_get, slice_get-get_or, slice_get-map, slice_get_within}
use Rattle.std.specs.List.{flat_map, slice_get}
use Rattle.definitions.specs.Lists.{option_list}
use Rattle.definitions.specs.Reach.{holds_resource}
use Rattle.definitions.specs.Scanning.{resource_uris}
use Rattle.definitions.specs.Schemas.{Schema}
use Rattle.definitions.specs.Values.{Text, Value, text_at}
use Rattle.definition_laws.proofs.Membership.{in_filter, is_first, is_later}
use Rattle.definition_laws.proofs.Occurrences.{IsIn, contains_from_in, in_from_contains, in_map}
use Rattle.definition_laws.proofs.Repeats.{in_flat_map}
use Rattle.definition_laws.proofs.Resources.{opened_is_root, root_opens}
use Rattle.definition_laws.proofs.Roots.{pointer_root}
use Rattle.schema_table.specs.Gathering.{table_identifiers, table_uris, identifier_at, spot_texts, texts_at}
use Rattle.schema_scan.specs.CompiledDocuments.{compiled_base, compiled_identifiers, compiled_value, compiled_schemas, compiled_texts, compiled_view}
use Rattle.schema_scan.specs.ReferenceTexts.{HasReference}
use Rattle.schema_table.specs.Spots.{Spot, at_root, spot_view}
use Rattle.schema_scan.specs.declared.compiled.Compiled.{Compiled}
use Rattle.schema_table.proofs.Indexing.{standing}
use Rattle.schema_table.proofs.Standing.{schemas_of-spots}
use Rattle.schema_scan.proofs.Owned.{owned-uris}
use Rattle.schema_table.proofs.Tables.{is_root-spot}
use Rattle.lemmas.proofs.Texts.{same_text_itself}
use Rattle.text_numbers.specs.TextNumbers.{AreNumbers, is_only, text_number}

pub at_place : {A : Type 0} (xs : List A) (x : A) (c : Contains xs x) → slice_get xs c.0 ≡ Some x
at_place xs x c = slice_get-get_or xs c.0 x c.1 ∙ ap Some c.2

-- ---- resources
pub uri-there : (d : Compiled) (uri : Text) → holds_resource uri (compiled_view d) ≡ true → (i : ℕ) × (slice_get (resource_uris (compiled_schemas d)) i ≡ Some uri)
uri-there d uri held = let there = root_opens (compiled_schemas d) uri held in (there.0, at_place (resource_uris (compiled_schemas d)) uri there)

pub held-at : (d : Compiled) (uri : Text) (n : ℕ) → slice_get (resource_uris (compiled_schemas d)) n ≡ Some uri → holds_resource uri (compiled_view d) ≡ true
held-at d uri n at =
    let us = resource_uris (compiled_schemas d) in
    opened_is_root (compiled_schemas d) uri uri (n, slice_get_within us n uri at, get_or_from_slice_get us n uri uri at) (same_text_itself uri)

-- ---- references
in_texts : (v : Value) (text : Text) → (text_at (codes "$ref") v ≡ Some text) ⊎ (text_at (codes "$dynamicRef") v ≡ Some text) → Contains (texts_at v) text
unfolding texts_at
in_texts v text (inl e) = subst (λ o. Contains (option_list o ++ option_list (text_at (codes "$dynamicRef") v)) text) (sym e) (is_first text (option_list (text_at (codes "$dynamicRef") v)))
in_texts v text (inr e) = subst (λ o. Contains (option_list (text_at (codes "$ref") v) ++ option_list o) text) (sym e) (behind (text_at (codes "$ref") v))
  where
    behind : (o : Option Text) → Contains (option_list o ++ text ∷ []) text
    behind None = is_first text []
    behind (Some other) = is_later other text (text ∷ []) (is_first text [])

-- the spot of a schema
module _ (ss : List Spot) (s : Schema) (inside : Contains (map spot_view ss) s) where
  abbrev pub spot : (p : Spot) × IsIn p ss × (spot_view p ≡ s)
  spot = let r = in_map spot_view ss s (in_from_contains (map spot_view ss) s inside) in (r.0, r.1, r.2)

  text-inside : (text : Text) → HasReference s text → Contains (flat_map spot_texts ss) text
  text-inside text has =
      in_flat_map spot_texts spot.0 text ss (contains_from_in ss spot.0 spot.1)
      (in_texts spot.0.value text (subst (λ (t : Schema). HasReference t text) (sym spot.2) has))

  root-inside : s.pointer ≡ [] → Contains (filter at_root ss) spot.0
  root-inside e =
      in_filter at_root spot.0 ss (contains_from_in ss spot.0 spot.1)
      (sym (is_root-spot spot.0) ∙ pointer_root (spot_view spot.0) (ap (λ (t : Schema). t.pointer) spot.2 ∙ e))

pub text-there : (d : Compiled) (s : Schema) (text : Text) → Contains (compiled_schemas d) s → HasReference s text → (i : ℕ) × (slice_get (compiled_texts d) i ≡ Some text)
unfolding compiled_base compiled_value compiled_texts
text-there d s text inside has =
    let ss = standing (compiled_base d) (compiled_value d) in
    let there = text-inside ss s (subst (λ ts. Contains ts s) (schemas_of-spots (compiled_base d) (compiled_value d)) inside) text has in
    (there.0, ap (λ ts. slice_get ts there.0) d.of_document.texts ∙ at_place (flat_map spot_texts ss) text there)

-- ---- roots
module _ (d : Compiled) (s : Schema) (id : Text) (inside : Contains (compiled_schemas d) s) (root : s.pointer ≡ []) (has : text_at (codes "$id") s.value ≡ Some id) where
  spots_there : List Spot
  spots_there = standing (compiled_base d) (compiled_value d)

  pub identified-there : (i : ℕ) × (slice_get (table_identifiers d.table) i ≡ Some id) × (slice_get (table_uris d.table) i ≡ Some s.resource)
  unfolding compiled_base compiled_value identifier_at spots_there
  identified-there =
      let ss = spots_there in
      let within = subst (λ ts. Contains ts s) (schemas_of-spots (compiled_base d) (compiled_value d)) inside in
      let p = spot ss s within in
      let roots = filter at_root ss in
      let there = root-inside ss s within root in
      let at : slice_get roots there.0 ≡ Some p.0 = at_place roots p.0 there in (
        there.0,
        ap (λ ts. slice_get ts there.0) d.of_document.identifiers ∙ slice_get-map (λ (q : Spot). identifier_at q.value) roots there.0 ∙ ap (option_map (λ (q : Spot). identifier_at q.value)) at
            ∙ ap (λ (t : Schema). Some (unwrap_or (text_at (codes "$id") t.value) [])) p.2 ∙ ap (λ o. Some (unwrap_or o [])) has,
        ap (λ ts. slice_get ts there.0) d.of_document.uris ∙ slice_get-map (λ (q : Spot). q.resource) roots there.0 ∙ ap (option_map (λ (q : Spot). q.resource)) at
            ∙ ap (λ (t : Schema). Some t.resource) p.2,
      )

  -- the only one of this number
  pub identified-only : AreNumbers d.identifier_numbers (table_identifiers d.table) → is_only d.identifier_numbers id ≡ true
      → slice_get (table_uris d.table) (text_number d.identifier_numbers id) ≡ Some s.resource
  identified-only numbers only =
      let there = identified-there in
      ap (slice_get (table_uris d.table)) (sym (numbers.only id there.0 there.1 only)) ∙ there.2

-- ---- the `$id`s beside the resources' URIs
pub identified-at : (d : Compiled) (s : Schema) (id : Text) → Contains (compiled_schemas d) s → s.pointer ≡ [] → text_at (codes "$id") s.value ≡ Some id
    → (i : ℕ) × (slice_get (compiled_identifiers d) i ≡ Some id) × (slice_get (resource_uris (compiled_schemas d)) i ≡ Some s.resource)
unfolding compiled_identifiers
identified-at d s id inside root has =
    let there = identified-there d s id inside root has in (there.0, there.1, ap (λ us. slice_get us there.0) (sym (owned-uris d)) ∙ there.2)

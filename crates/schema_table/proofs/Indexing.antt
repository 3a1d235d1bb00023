-- What is gathered of a document, as the definitions find it.
use Rattle.std.proofs.Common.{◌≡◌, ℕ, List, [], ◌∷◌, filter, true, false, Some, map, nat_le, is_some, cond, option_and_then, refl, sym, ap, ◌∙◌, arith}
use Rattle.std.proofs.lemmas.Bool.Decides.{nat_tests}
use Rattle.std.specs.List.{find, flat_map, list_any, slice_get}
use Rattle.definitions.specs.Values.{Text, Value, object, is_well_formed, same_text}
use Rattle.definitions.specs.Schemas.{Schema, document_from, schemas_of, references}
use Rattle.definitions.specs.Scanning.{anchors_of, resource_uris}
use Rattle.definitions.specs.Lists.{has_repeat}
use Rattle.definitions.specs.Reach.{references_in}
use Rattle.definitions.specs.Targets.{resource_root, schema_with_anchor, schema_with_dynamic_anchor}
use Rattle.locations.specs.Hops.{Hop}
use Rattle.schema_table.specs.Spots.{Spot, spot_in, at_root, spots, resource_of, start_of}
use Rattle.schema_table.specs.Gathering.{mark_pair, marks, root_uris, root_ways, spot_references}
use Rattle.schema_table.specs.Lookups.{has_dynamic_mark, has_mark, marked_schema, root_at}
use Rattle.schema_table.proofs.Following.{AreFollowed, spots-followed}
use Rattle.schema_table.proofs.Standing.{schema-spot, schemas_of-spots}
use Rattle.schema_table.proofs.Tables.{anchors-of, uris-of, references-of, root-numbered, anchored-by_mark, dynamically-by_mark, dynamically-held}

module _ (base : Text) (v : Value) where
  abbrev pub standing : List Spot
  standing = spots [] 0 base v

  pub document-uris : resource_uris (schemas_of base v) ≡ root_uris standing
  document-uris = ap resource_uris (schemas_of-spots base v) ∙ sym (uris-of standing)

  pub document-references : references_in (document_from base v) ≡ flat_map spot_references standing
  document-references = ap (flat_map references) (schemas_of-spots base v) ∙ sym (references-of standing)

  pub document-anchors : flat_map anchors_of (schemas_of base v) ≡ map mark_pair (flat_map marks standing)
  document-anchors = ap (flat_map anchors_of) (schemas_of-spots base v) ∙ sym (anchors-of standing)

  -- ---- the first root is the document's
  first-root : (s : Spot) (ss : List Spot) → at_root s ≡ true → slice_get (root_uris (s ∷ ss)) 0 ≡ Some s.resource
  first-root s ss e = ap (λ b. slice_get (map (λ (t : Spot). t.resource) (cond b (s ∷ filter at_root ss) (filter at_root ss))) 0) e

  at-start : (n : ℕ) → nat_le 0 n ≡ true
  at-start n = grind (arith, nat_tests)

  abbrev first_spot : Spot
  first_spot = spot_in [] (start_of 0 [] v) (resource_of base v) v

  canonical-by : (ss : List Spot) → standing ≡ first_spot ∷ ss → slice_get (root_uris standing) 0 ≡ Some (document_from base v).canonical
  canonical-by ss e =
      ap (λ ts. slice_get (root_uris ts) 0) e ∙ first-root first_spot ss (at-start (start_of 0 [] v))
      ∙ ap (λ (s : Schema). Some s.resource) (sym (schema-spot base [] 0 v))

pub document-canonical : (base : Text) (v : Value) → slice_get (root_uris (standing base v)) 0 ≡ Some (document_from base v).canonical
document-canonical base (object ms) = canonical-by base (object ms) _ refl
document-canonical base v = canonical-by base v [] refl

module _ (base : Text) (v : Value) where
  module _ (formed : is_well_formed v ≡ true) where
    followed : AreFollowed v (standing base v)
    followed = spots-followed v [] 0 base v formed refl

    pub document-root : (uri : Text) (n : ℕ) → has_repeat same_text (resource_uris (schemas_of base v)) ≡ false → slice_get (root_uris (standing base v)) n ≡ Some uri
        → (way : List Hop) × (slice_get (root_ways (standing base v)) n ≡ Some way) × (root_at uri way v ≡ resource_root (schemas_of base v) uri)
    document-root uri n distinct at =
        let found = root-numbered v (standing base v) uri n followed (ap (has_repeat same_text) (sym (document-uris base v)) ∙ distinct) at in
        (found.0, found.1, found.2 ∙ ap (λ ss. resource_root ss uri) (sym (schemas_of-spots base v)))

    pub document-anchored : (uri name : Text)
        → option_and_then (marked_schema v) (find (has_mark uri name) (flat_map marks (standing base v))) ≡ schema_with_anchor (schemas_of base v) uri name
    document-anchored uri name = anchored-by_mark v uri name (standing base v) followed ∙ ap (λ ss. schema_with_anchor ss uri name) (sym (schemas_of-spots base v))

    pub document-dynamically_anchored : (uri name : Text)
        → option_and_then (marked_schema v) (find (has_dynamic_mark uri name) (flat_map marks (standing base v))) ≡ schema_with_dynamic_anchor (schemas_of base v) uri name
    document-dynamically_anchored uri name = dynamically-by_mark v uri name (standing base v) followed ∙ ap (λ ss. schema_with_dynamic_anchor ss uri name) (sym (schemas_of-spots base v))

  pub document-dynamic_held : (uri name : Text)
      → list_any (has_dynamic_mark uri name) (flat_map marks (standing base v)) ≡ is_some (schema_with_dynamic_anchor (schemas_of base v) uri name)
  document-dynamic_held uri name = dynamically-held uri name (standing base v) ∙ ap (λ ss. is_some (schema_with_dynamic_anchor ss uri name)) (sym (schemas_of-spots base v))

-- What a scan without a fault says of a document.
use Rattle.std.proofs.Common.{◌≡◌, ◌++◌, suc, List, [], Bool, true, false, Some, None, nat_lt, codes, refl, ap, ◌∙◌}
use Rattle.std.specs.List.{flat_map}
use Rattle.definitions.specs.Values.{Text, Value, string, nesting, is_object, same_text, get, text_at}
use Rattle.definitions.specs.Lists.{has_repeat, unless, when, first}
use Rattle.definitions.specs.Faults.{Fault, not_object, too_nested, bad_id, duplicate_uri, duplicate_anchor}
use Rattle.definitions.specs.Schemas.{Schema, schema_at, schemas_of, document_from}
use Rattle.definitions.specs.Scanning.{is_id, subtree_faults, resource_uris, anchors_of, same_anchor, scan_faults, scan_fault}
use Rattle.definitions.specs.Limits.{limits}
use Rattle.definition_laws.proofs.AcceptedDocuments.{first_none, unless_none, IsScanned, scanned}
use Rattle.definition_laws.proofs.Applying.{get_in}
use Rattle.definition_laws.proofs.Places.{value-opened}
use Rattle.definition_laws.proofs.BatchValues.{text_value}
use Rattle.bundle_laws.proofs.Walks.{IsFaultless, faultless_from}

no_test : (shaped nested uris anchors : Bool) (walk : List Fault) → shaped ≡ true → nested ≡ false → walk ≡ [] → uris ≡ false → anchors ≡ false
    → (unless shaped not_object ++ (when nested too_nested ++ walk)) ++ (when uris duplicate_uri ++ when anchors duplicate_anchor) ≡ []
no_test shaped nested uris anchors walk a b c d e = rw (a, b, c, d, e) refl

pub passed : (base : Text) (v : Value) → IsScanned (document_from base v) → scan_fault base v ≡ None
passed base v h =
    ap first (no_test (is_object v) (nat_lt limits.schema_nesting (nesting v)) (has_repeat same_text (resource_uris (schemas_of base v)))
    (has_repeat same_anchor (flat_map anchors_of (schemas_of base v))) (subtree_faults (suc (nesting v)) base [] (schema_at base [] v)) h.object h.shallow h.walk h.uris h.anchors)

pub scanned_faultless : (base : Text) (v : Value) → scan_fault base v ≡ None → IsFaultless (suc (nesting v)) base (schema_at base [] v)
scanned_faultless base v e =
    faultless_from (suc (nesting v)) base [] (schema_at base [] v) (scanned (document_from base v) (first_none (scan_faults base v) e)).walk

-- ---- the `$id` of its root
pub id_faultless : (base : Text) (v : Value) (id : Text) → scan_fault base v ≡ None → text_at (codes "$id") v ≡ Some id → is_id base (string id) ≡ true
id_faultless base v id e f =
    let top : Schema = schema_at base [] v in
    let right : IsFaultless (suc (nesting v)) base top = scanned_faultless base v e in
    let got : get (codes "$id") top.value ≡ Some (string id) = ap (get (codes "$id")) (value-opened base [] v (text_at (codes "$id") v)) ∙ text_value (get (codes "$id") v) id f in
    unless_none (is_id base (string id)) bad_id (right.0 (codes "$id") (string id) (get_in (codes "$id") top.value (string id) got) [])

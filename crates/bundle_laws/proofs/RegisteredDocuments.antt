-- Registered documents have identifiers, and documents with identifiers are as a bundle wants its documents.
use Rattle.std.proofs.Common.{◌≡◌, true, List, Contains, sym, ap, subst}
use Rattle.std.specs.Str.{is_utf8}
use Rattle.definitions.specs.Uris.{split, is_identifier}
use Rattle.definitions.specs.Schemas.{Document}
use Rattle.definitions.specs.Scanning.{scan_faults}
use Rattle.definitions.specs.Searches.{Search}
use Rattle.bundle_laws.specs.Registered.{AreIdentified, RegisteredDocumentsAreIdentified}
use Rattle.bundle_laws.specs.Standing.{IdentifiedDocumentsAreWhole}
use Rattle.definition_laws.proofs.AcceptedDocuments.{first_none, IsScanned, scanned}
use Rattle.definition_laws.proofs.DistinctDocuments.{kept_distinct_schemas}
use Rattle.bundle_laws.proofs.Identified.{identifiers_are_absolute, canonical_uris_are_identifiers}
use Rattle.bundle_laws.proofs.CanonicalTexts.{canonical_uris_are_texts}

pub identified_scanned : (search : Search) (ds : List Document) → AreIdentified search ds → (d : Document) → Contains ds d → IsScanned d
identified_scanned search ds r d c = scanned d (first_none (scan_faults d.base d.value) (r.kept.scanned d c))

pub registered_documents_are_identified : RegisteredDocumentsAreIdentified
registered_documents_are_identified search ds r =
    let values = (kept_distinct_schemas search ds r.kept r.body_values).values in
    record {
      kept = r.kept;
      values = values;
      identifiers = λ d c.
          subst (λ u. is_identifier (split u) ≡ true) (sym (ap (λ x. x.canonical) (r.kept.named d c))) (canonical_uris_are_identifiers d.base d.value (r.base_forms d c) (r.kept.scanned d c));
      texts = λ d c.
          subst (λ u. is_utf8 u ≡ true) (sym (ap (λ x. x.canonical) (r.kept.named d c))) (canonical_uris_are_texts d.base d.value (r.base_texts d c) (values d c));
    }

pub identified_documents_are_whole : IdentifiedDocumentsAreWhole
identified_documents_are_whole search ds r linked = record {
  distinct = r.kept.distinct;
  anchors = λ d c. (identified_scanned search ds r d c).anchors;
  named = r.kept.named;
  objects = λ d c. (identified_scanned search ds r d c).object;
  values = r.values;
  texts = r.texts;
  absolute = λ d c. identifiers_are_absolute d.canonical (r.identifiers d c);
  linked = linked;
}

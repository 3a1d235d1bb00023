-- Stored documents are as a registry keeps its documents.
use Rattle.std.proofs.Common.{◌≡◌, false, List, [], ◌∷◌, None, map, Contains, refl, subst, inl, inr, IsTrue}
use Rattle.std.specs.Global.{Global}
use Rattle.std.specs.declared.rc.Rc.{Rc}
use Rattle.definitions.specs.Documents.{resource_uris_of, Ascend}
use Rattle.definitions.specs.Keeping.{AreKept}
use Rattle.definitions.specs.Lists.{has_repeat}
use Rattle.definitions.specs.Patterns.{regular_search}
use Rattle.definitions.specs.Scanning.{scan_fault}
use Rattle.definitions.specs.Schemas.{Document, document_from}
use Rattle.definitions.specs.Searches.{is_regular}
use Rattle.definitions.specs.Values.{same_text}
use Rattle.definition_laws.proofs.Membership.{nothing_in, first_or_later}
use Rattle.stored_documents.specs.DocumentLists.{documents_in}
use Rattle.stored_documents.specs.OrderedDocuments.{ordered_documents}
use Rattle.stored_documents.specs.SharedStored.{stored_documents}
use Rattle.stored_documents.specs.StoredDocuments.{stored_view}
use Rattle.stored_documents.specs.declared.documents.Documents.{Documents}
use Rattle.stored_documents.specs.declared.ordered.OrderedDocuments.{OrderedDocuments}
use Rattle.stored_documents.specs.declared.stored.Stored.{Stored}

pub of_each : (P : Document → Type 0) → ((s : Stored) → P (stored_view s)) → (items : List (Rc Stored Global)) (d : Document) → Contains (stored_documents items) d → P d
unfolding stored_documents
of_each P h [] d c = absurd (nothing_in d c)
of_each P h (x ∷ xs) d c = elim (first_or_later (stored_view x.value) d (map (λ (y : Rc Stored Global). stored_view y.value) xs) c) [
  | inl same ↦ subst P same (h x.value)
  | inr later ↦ of_each P h xs d later
]

pub kept_stored : (items : List (Rc Stored Global)) → Ascend (stored_documents items) → has_repeat same_text (resource_uris_of (stored_documents items)) ≡ false
    → AreKept regular_search (stored_documents items)
kept_stored items ascend distinct = record {
  ordered = ascend;
  named = of_each (λ d. d ≡ document_from d.base d.value) (λ s. refl) items;
  distinct = distinct;
  scanned = of_each (λ d. scan_fault d.base d.value ≡ None) (λ s. s.faultless) items;
  regular_patterns = of_each (λ d. IsTrue (is_regular regular_search d.value)) (λ s. s.regular) items;
}

pub kept_ordered : (ds : OrderedDocuments) → AreKept regular_search (ordered_documents ds)
unfolding ordered_documents
kept_ordered ds = kept_stored ds.stored.items ds.ascend ds.distinct

pub kept_documents : (ds : Documents) → AreKept regular_search (documents_in ds)
unfolding documents_in
kept_documents ds = kept_ordered ds.ordered

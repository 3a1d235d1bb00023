-- Documents that are kept stay so where a stored one is put among them, or one is taken out.
use Rattle.std.proofs.Common.{◌≡◌, List, None, not, refl}
use Rattle.definitions.specs.Documents.{documents_with, others_of, taken_uri}
use Rattle.definitions.specs.Keeping.{AreKept}
use Rattle.definitions.specs.Patterns.{regular_search}
use Rattle.definitions.specs.Scanning.{scan_faults}
use Rattle.definitions.specs.Schemas.{Document}
use Rattle.definitions.specs.Values.{Text, same_text}
use Rattle.definition_laws.proofs.AcceptedDocuments.{first_none, free_of_others}
use Rattle.definition_laws.proofs.KeptDocuments.{IsFine, added_kept, part_kept}
use Rattle.stored_documents.specs.StoredDocuments.{stored_view}
use Rattle.stored_documents.specs.declared.stored.Stored.{Stored}

pub fine : (s : Stored) → IsFine regular_search (stored_view s)
fine s = record { named = refl; scanned = first_none (scan_faults (stored_view s).base (stored_view s).value) s.faultless; regular = s.regular }

pub kept_with : (ds : List Document) (s : Stored) → AreKept regular_search ds → taken_uri ds (stored_view s) ≡ None → AreKept regular_search (documents_with (stored_view s) ds)
kept_with ds s kept free = added_kept regular_search (stored_view s) ds kept (fine s) (λ e c other. free_of_others ds (stored_view s) e free c other)

pub kept_without : (uri : Text) (ds : List Document) → AreKept regular_search ds → AreKept regular_search (others_of uri ds)
kept_without uri ds kept = part_kept regular_search (λ d. not (same_text uri d.canonical)) ds kept

-- What the laws say of the sums that quotas bound.
use Rattle.std.specs.Prelude.{◌≡◌, ◌+◌, List, [], ◌∷◌, length}
use Rattle.definitions.specs.Values.{Text}
use Rattle.definitions.specs.Lists.{option_list}
use Rattle.definitions.specs.Schemas.{Document}
use Rattle.definitions.specs.Searches.{Search}
use Rattle.definitions.specs.Documents.{document_of, others_of, documents_with, bytes_of}
use Rattle.definitions.specs.Registries.{Registry}
use Rattle.definitions.specs.Keeping.{IsKept}

-- the document with this canonical URI, where there is one
abbrev pub documents_at : Text → List Document → List Document
documents_at uri ds = option_list (document_of ds uri)

-- what is put adds to the sums what it doesn't replace
pub record IsAdded (ds : List Document) (d : Document) : Type 0 where
  pub documents : length (documents_with d ds) + length (documents_at d.canonical ds) ≡ length ds + 1
  pub bytes : bytes_of (documents_with d ds) + bytes_of (documents_at d.canonical ds) ≡ bytes_of ds + bytes_of (d ∷ [])

-- what is deleted takes its own share off
pub record IsTakenOff (ds : List Document) (uri : Text) : Type 0 where
  pub documents : length (others_of uri ds) + length (documents_at uri ds) ≡ length ds
  pub bytes : bytes_of (others_of uri ds) + bytes_of (documents_at uri ds) ≡ bytes_of ds

abbrev pub QuotasAddUp : Type 0
QuotasAddUp =
    (search : Search) (g : Registry) → IsKept search g
    → ((d : Document) → IsAdded g.documents d) × ((uri : Text) → IsTakenOff g.documents uri)

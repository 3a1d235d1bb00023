-- Lists of documents, by their canonical URIs and by the resources that they hold.
use Rattle.std.specs.Prelude.{Bool, Contains, List, None, Option, false, filter, find, flat_map, is_none, length, map, not, sum_by, ◌∷◌, ◌≡◌, [], ℕ}
use Rattle.std.specs.List.Sorted.{IsStrictlySortedBy}
use Rattle.std.specs.List.{list_any}
use Rattle.std.specs.Ordering.{match_ordering, nat_cmp}
use Rattle.std.specs.Cmp.Lexicographic.{slice_cmp}
use Rattle.definitions.specs.Lists.{has_repeat}
use Rattle.definitions.specs.Values.{Text, same_text}
use Rattle.definitions.specs.Texts.{text}
use Rattle.definitions.specs.Schemas.{Document, document_from, schemas_of}
use Rattle.definitions.specs.Scanning.{resource_uris, scan_fault}
use Rattle.definitions.specs.Reach.{holds_resource, least}

-- ---- by canonical URIs
abbrev pub document_of : List Document → Text → Option Document
document_of ds uri = find (λ d. same_text uri d.canonical) ds

abbrev pub others_of : Text → List Document → List Document
others_of uri = filter (λ d. not (same_text uri d.canonical))

-- at its place in byte order, instead of the one with its canonical URI
abbrev pub documents_with : Document → List Document → List Document
documents_with d [] = d ∷ []
documents_with d (e ∷ es) = match_ordering (slice_cmp nat_cmp d.canonical e.canonical) (d ∷ e ∷ es) (d ∷ es) (e ∷ documents_with d es)

-- one after the other
abbrev pub documents_with_all : List Document → List Document → List Document
documents_with_all [] ds = ds
documents_with_all (e ∷ es) ds = documents_with_all es (documents_with e ds)

-- both, in byte order, where no canonical URI is in both
abbrev pub documents_of_both : List Document → List Document → List Document
documents_of_both [] ds = ds
documents_of_both (l ∷ ls) ds = documents_with l (documents_of_both ls ds)

abbrev pub canonicals : List Document → List Text
canonicals ds = map (λ d. d.canonical) ds

-- in byte order of canonical URIs, each once
abbrev pub Ascend : List Document → Type 0
Ascend ds = IsStrictlySortedBy (slice_cmp nat_cmp) (canonicals ds)

-- ---- by resources
abbrev pub resources_of : Document → List Text
resources_of d = resource_uris (schemas_of d.base d.value)

abbrev pub resource_uris_of : List Document → List Text
resource_uris_of ds = flat_map resources_of ds

-- the resource URIs of the document that belong to others among these
abbrev pub taken_uris : List Document → Document → List Text
taken_uris ds d = filter (λ u. list_any (holds_resource u) (others_of d.canonical ds)) (resources_of d)

-- the least of them
abbrev pub taken_uri : List Document → Document → Option Text
taken_uri ds d = least (taken_uris ds d)

-- ---- their size
-- the bytes of their compact texts
abbrev pub bytes_of : List Document → ℕ
bytes_of = sum_by (λ d. length (text d.value))

-- ---- what holds of documents that are kept
abbrev pub is_faultless : Document → Bool
is_faultless d = is_none (scan_fault d.base d.value)

-- documents without a fault, in byte order of canonical URIs, no two of which hold one resource
pub record AreSound (ds : List Document) : Type 0 where
  pub ascend : Ascend ds
  pub distinct : has_repeat same_text (resource_uris_of ds) ≡ false
  pub made : (d : Document) → Contains ds d → d ≡ document_from d.base d.value
  pub faultless : (d : Document) → Contains ds d → scan_fault d.base d.value ≡ None

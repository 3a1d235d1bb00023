-- Documents as rows: one row for each document of each tenant.
use Rattle.std.specs.Prelude.{Bool, List, None, Option, Some, filter, not, false, option_and_then, ◌∷◌, ◌&&◌, ◌≡◌, [], ⊤}
use Rattle.std.specs.Cmp.Lexicographic.{slice_cmp}
use Rattle.std.specs.List.Sorted.{IsStrictlySortedBy}
use Rattle.std.specs.declared.cmp.Ordering.{Ordering}
use Rattle.std.specs.Ordering.{match_ordering, nat_cmp, ordering_then}
use Rattle.hex.specs.Hex.{encode_lower}
use Rattle.sha2.specs.Sha256.{sha256}
use Rattle.definitions.specs.Documents.{document_of}
use Rattle.definitions.specs.Registries.{Reply, stored, stored_all, deleted}
use Rattle.definitions.specs.Schemas.{Document}
use Rattle.definitions.specs.Services.{KeyedRegistry, registry_of}
use Rattle.definitions.specs.Texts.{text}
use Rattle.definitions.specs.Values.{Text, same_text}

-- the digest of the tenant's key, the document's canonical URI, the base form of the URI that it was put under, and the
-- compact text of its value
pub record Row : Type 0 where
  pub tenant : Text
  pub uri : Text
  pub base : Text
  pub text : Text

-- ---- their order
-- in byte order of tenants, and for one tenant of URIs
abbrev pub row_cmp : Row → Row → Ordering
row_cmp r s = ordering_then (slice_cmp nat_cmp r.tenant s.tenant) (slice_cmp nat_cmp r.uri s.uri)

-- no two of them with one tenant and one URI
abbrev pub Ascend : List Row → Type 0
Ascend rows = IsStrictlySortedBy row_cmp rows

-- at its place, instead of the one with its tenant and URI
abbrev pub with_row : Row → List Row → List Row
with_row r [] = r ∷ []
with_row r (s ∷ ss) = match_ordering (row_cmp r s) (r ∷ s ∷ ss) (r ∷ ss) (s ∷ with_row r ss)

abbrev pub is_row_at : Text → Text → Row → Bool
is_row_at tenant uri r = same_text tenant r.tenant && same_text uri r.uri

abbrev pub without_row : Text → Text → List Row → List Row
without_row tenant uri = filter (λ r. not (is_row_at tenant uri r))

-- none of them has this tenant and this URI
abbrev pub HasNoRow : Text → Text → List Row → Type 0
HasNoRow tenant uri rows = without_row tenant uri rows ≡ rows

-- ---- of documents
-- SHA-256 (FIPS 180-4) in lower-case hexadecimal, 64 characters: no key stands in a row
unfoldable pub digest : Text → Text
digest key = encode_lower (sha256 key)

abbrev pub row_of : Text → Document → Row
row_of key d = record { tenant = digest key; uri = d.canonical; base = d.base; text = text d.value }

abbrev pub rows_with : Text → List Document → List Row → List Row
rows_with key [] rows = rows
rows_with key (d ∷ ds) rows = with_row (row_of key d) (rows_with key ds rows)

-- of all tenants' own documents; those of the library have none
abbrev pub rows_of : List KeyedRegistry → List Row
rows_of [] = []
rows_of (k ∷ ks) = rows_with k.key k.registry.documents (rows_of ks)

-- ---- after a request
-- the tenant's own document with this canonical URI
abbrev pub document_at : List KeyedRegistry → Text → Text → Option Document
document_at ks key uri = option_and_then (λ g. document_of g.documents uri) (registry_of ks key)

-- with the row of a document, where there is one
abbrev pub with_document : Text → Option Document → List Row → List Row
with_document key None rows = rows
with_document key (Some d) rows = with_row (row_of key d) rows

-- one after the other, of those that the tenant has now under these URIs
abbrev pub with_each : Text → List KeyedRegistry → List (Text × Bool) → List Row → List Row
with_each key ks [] rows = rows
with_each key ks (u ∷ us) rows = with_each key ks us (with_document key (document_at ks key u.0) rows)

-- after this reply to the tenant with this key, which left these registries
abbrev pub rows_after : Text → List KeyedRegistry → Reply → List Row → List Row
rows_after key ks (stored uri there) rows = with_document key (document_at ks key uri) rows
rows_after key ks (stored_all us) rows = with_each key ks us rows
rows_after key ks (deleted uri) rows = without_row (digest key) uri rows
rows_after key ks _ rows = rows

-- a document that this reply to the tenant with this key calls new has no row among these
abbrev pub NewHasNoRow : Text → Reply → List Row → Type 0
NewHasNoRow key (stored uri false) rows = HasNoRow (digest key) uri rows
NewHasNoRow key _ rows = ⊤

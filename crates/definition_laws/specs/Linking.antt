-- What the laws say of references without a target, and of the least of them.
use Rattle.std.specs.Prelude.{◌≡◌, ◌↔◌, List, [], Some, None, false, Contains, IsTrue, is_some}
use Rattle.std.specs.Ordering.{nat_cmp, is_lt}
use Rattle.std.specs.Cmp.Lexicographic.{slice_cmp}
use Rattle.definitions.specs.Values.{Text}
use Rattle.definitions.specs.Schemas.{Document, table_of}
use Rattle.definitions.specs.Targets.{target}
use Rattle.definitions.specs.Reach.{references_in, missing_references, least}

-- one of the texts, and none of them comes before it in byte order
pub record IsLeast (ts : List Text) (t : Text) : Type 0 where
  pub inside : Contains ts t
  pub none_less : (u : Text) → Contains ts u → is_lt (slice_cmp nat_cmp u t) ≡ false

abbrev pub LeastIsLeast : Type 0
LeastIsLeast = (ts : List Text) (t : Text) → least ts ≡ Some t → IsLeast ts t

-- only where there are no texts is there no least one
abbrev pub NoTextsHaveNoLeast : Type 0
NoTextsHaveNoLeast = (ts : List Text) → (least ts ≡ None) ↔ (ts ≡ [])

-- a document among these refers to it, and no schema of theirs is named by it
pub record IsMissing (ds : List Document) (reference : Text) : Type 0 where
  pub document : Document
  pub inside : Contains ds document
  pub refers : Contains (references_in document) reference
  pub names_nothing : target (table_of ds) reference ≡ None

abbrev pub MissingNameNothing : Type 0
MissingNameNothing = (ds : List Document) (reference : Text) → Contains (missing_references ds) reference ↔ IsMissing ds reference

-- nothing is missing exactly where each reference of each document names a schema
abbrev pub LinkedNameAll : Type 0
LinkedNameAll =
    (ds : List Document)
    → (least (missing_references ds) ≡ None) ↔ ((d : Document) (reference : Text) → Contains ds d → Contains (references_in d) reference → IsTrue (is_some (target (table_of ds) reference)))

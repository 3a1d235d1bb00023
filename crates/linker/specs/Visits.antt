-- A visit of documents: those that are reached so far, and those of them whose references wait to be followed.
use Rattle.std.specs.Prelude.{◌≡◌, ◌⊎◌, ◌+◌, ◌++◌, List, [], ◌∷◌, Bool, true, false, Contains, find, if◌then◌else◌, is_some, length, nat_lt}
use Rattle.definitions.specs.Lists.{has_repeat}
use Rattle.definitions.specs.Scanning.{resource_uris}
use Rattle.definitions.specs.Schemas.{Document, table_of}
use Rattle.definitions.specs.Documents.{document_of, documents_with, resources_of, Ascend}
use Rattle.definitions.specs.Values.{Text, same_text}
use Rattle.linker.specs.Sources.{embeds}

-- documents of the source, in byte order of canonical URIs
pub record IsPart (reached all : List Document) : Type 0 where
  pub ascend : Ascend reached
  pub inside : (d : Document) → Contains reached d → Contains all d

-- those of the documents that have several resources, in some order
pub record AreCompound (ds compound : List Document) : Type 0 where
  pub inside : (d : Document) → Contains compound d → Contains ds d
  pub each : (d : Document) → Contains ds d → nat_lt 1 (length (resources_of d)) ≡ true → Contains compound d

-- which of them has a resource is found there as among all
abbrev pub EmbedAlike : List Document → List Document → Type 0
EmbedAlike ds compound = (uri : Text) → find (embeds uri) compound ≡ find (embeds uri) ds

-- the document with a resource is found among them: by its canonical URI, or by those that have several
pub record AreSearchable (ds compound : List Document) : Type 0 where
  pub ascend : Ascend ds
  pub distinct : has_repeat same_text (resource_uris (table_of ds)) ≡ false
  pub known : EmbedAlike ds compound

-- and one document more, if it has several
unfoldable pub with_compound : Document → List Document → List Document
with_compound d compound = if nat_lt 1 (length (resources_of d)) then compound ++ d ∷ [] else compound

-- the document is reached; it waits if it is new
abbrev pub Keeps : Document → List Document → List Document → List Document → List Document → Type 0
Keeps d reached waiting reached_now waiting_now =
    (is_some (document_of reached d.canonical) ≡ true) × (reached_now ≡ reached) × (waiting_now ≡ waiting)
    ⊎ (is_some (document_of reached d.canonical) ≡ false) × (reached_now ≡ documents_with d reached) × (waiting_now ≡ waiting ++ d ∷ [])

-- of all documents those that pass the test are reached now, and what is new waits
pub record Adds (all : List Document) (p : Document → Bool) (reached waiting reached_now waiting_now : List Document) : Type 0 where
  pub ascend : Ascend reached_now
  pub kept : (d : Document) → Contains reached d → Contains reached_now d
  pub found : (d : Document) → Contains all d → p d ≡ true → Contains reached_now d
  pub only : (d : Document) → Contains reached_now d → Contains reached d ⊎ (Contains all d × (p d ≡ true))
  pub new_wait : (d : Document) → Contains reached_now d → Contains reached d ⊎ Contains waiting_now d
  pub still_wait : (d : Document) → Contains waiting d → Contains waiting_now d
  pub waiting_reached : (d : Document) → Contains waiting_now d → Contains waiting d ⊎ Contains reached_now d
  pub one_for_one : length reached_now + length waiting ≡ length reached + length waiting_now

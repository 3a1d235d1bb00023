-- What the laws say of rows and registries.
use Rattle.std.specs.Prelude.{List, Some, length, ◌≡◌}
use Rattle.definitions.specs.Registries.{Registry, Reply, Request}
use Rattle.definitions.specs.Searches.{Search}
use Rattle.definitions.specs.Services.{Call, IsCallAnswer, KeyedRegistry, registry_of}
use Rattle.definitions.specs.Values.{Text}
use Rattle.definition_laws.specs.Keeping.{HaveBaseForms, HaveBodyValues}
use Rattle.definition_laws.specs.Services.{AreAllKept}
use Rattle.stored_rows.specs.Restoring.{HaveDistinctDigests, Restores, emptied}
use Rattle.stored_rows.specs.Rows.{Ascend, NewHasNoRow, Row, digest, rows_after, rows_of}

-- every tenant's own documents are values of bodies, under base forms of URIs
abbrev pub HaveOwnBodies : List KeyedRegistry → Type 0
HaveOwnBodies ks =
    (key : Text) (g : Registry) → registry_of ks key ≡ Some g → HaveBodyValues g.documents × HaveBaseForms g.documents

-- ---- what is stored gives the registries back
abbrev pub RowsGiveRegistriesBack : Type 0
RowsGiveRegistriesBack =
    (search : Search) (ks : List KeyedRegistry) → HaveDistinctDigests ks → AreAllKept search ks → HaveOwnBodies ks
    → Restores search (emptied ks) (rows_of ks) ks

-- and no others
abbrev pub RowsGiveOneResult : Type 0
RowsGiveOneResult =
    (search : Search) (ks ls ms : List KeyedRegistry) (rs : List Row) → HaveDistinctDigests ks → Restores search ks rs ls
    → Restores search ks rs ms → ls ≡ ms

-- ---- from request to request
-- a granted change changes the rows so, and what is refused or only read leaves them
abbrev pub CallsChangeRows : Type 0
CallsChangeRows =
    (search : Search) (ks ls : List KeyedRegistry) (key : Text) (q : Request) (r : Reply) → HaveDistinctDigests ks
    → AreAllKept search ks → IsCallAnswer search ks (key, q) r ls → rows_of ls ≡ rows_after key ls r (rows_of ks)

-- a document that is new to the tenant's registry is new to the rows
abbrev pub NewDocumentsHaveNoRow : Type 0
NewDocumentsHaveNoRow =
    (search : Search) (ks ls : List KeyedRegistry) (key : Text) (q : Request) (r : Reply) → HaveDistinctDigests ks
    → AreAllKept search ks → IsCallAnswer search ks (key, q) r ls → NewHasNoRow key r (rows_of ks)

-- keys, quotas and the library stay
abbrev pub CallsKeepWhatIsEmptied : Type 0
CallsKeepWhatIsEmptied =
    (search : Search) (ks ls : List KeyedRegistry) (c : Call) (r : Reply) → IsCallAnswer search ks c r ls → emptied ls ≡ emptied ks

-- so digests stay distinct
abbrev pub EmptiedRegistriesHaveTheDigests : Type 0
EmptiedRegistriesHaveTheDigests =
    (ks ls : List KeyedRegistry) → emptied ls ≡ emptied ks → HaveDistinctDigests ks → HaveDistinctDigests ls

-- ---- rows that were read
-- put back into registries without documents, they are what is stored
abbrev pub RestoredRowsAreStored : Type 0
RestoredRowsAreStored =
    (search : Search) (ks ls : List KeyedRegistry) (rs : List Row) → HaveDistinctDigests ks → emptied ks ≡ ks → Ascend rs
    → Restores search ks rs ls → rows_of ls ≡ rs

abbrev pub RestoringKeepsWhatIsEmptied : Type 0
RestoringKeepsWhatIsEmptied =
    (search : Search) (ks ls : List KeyedRegistry) (rs : List Row) → Restores search ks rs ls → emptied ls ≡ emptied ks

abbrev pub RowsAscend : Type 0
RowsAscend = (ks : List KeyedRegistry) → Ascend (rows_of ks)

-- ---- keys
-- a key's digest has 64 characters, whatever the key
abbrev pub DigestsHaveOneLength : Type 0
DigestsHaveOneLength = (key : Text) → length (digest key) ≡ 64

-- The documents that are gathered from files.
use Rattle.std.specs.Prelude.{◌≡◌, ◌≢◌, ◌⊎◌, ◌↔◌, ◌∷◌, [], Bool, true, false, Contains, List, Option, Some, None, Result, Ok, Err, codes, unwrap_or}
use Rattle.checks.specs.Judgements.{builds_patterns, default_uri, is_for_pattern}
use Rattle.command_line.specs.Calls.{Documents}
use Rattle.definitions.specs.Batches.{batch_entries, library_of}
use Rattle.definitions.specs.Documents.{documents_with}
use Rattle.definitions.specs.Patterns.{regular_search}
use Rattle.definitions.specs.Resolution.{base_form}
use Rattle.definitions.specs.Schemas.{Document}
use Rattle.definitions.specs.Texts.{parsed_value}
use Rattle.definitions.specs.Values.{Text}
use Rattle.faults.specs.View.{fault_view}
use Rattle.faults.specs.declared.Fault as code
use Rattle.file_checks.specs.FileTexts.{document_beside}
use Rattle.file_checks.specs.FileUris.{SpellsPath, path_in}
use Rattle.file_forms.specs.Refusals.{IsRefusal, IsUnread}
use Rattle.file_forms.specs.Subjects.{Holds, Lists, endings_of}
use Rattle.file_forms.specs.declared.trouble.Trouble.{Trouble}
use Rattle.tenant_documents.specs.EntryRefusals.{IsRefusedLibrary}

-- the URIs at which files lie that were read, and the documents
pub record Gathering : Type 0 where
  pub places : List Text
  pub documents : List Document

-- ---- one file
-- the file at this path lies at this URI, where the program runs in this folder
pub record LiesAt (folder path place : Text) : Type 0 where
  pub uri : Text
  pub spells : SpellsPath uri (path_in folder path)
  pub base : base_form uri ≡ Ok place

-- its document goes beside the others, under the URI that is given, or else where it lies
pub record IsAddedAt (holds : Holds) (folder path place : Text) (uri : Option Text) (document : Document) (before after : Gathering) : Type 0 where
  pub lies : LiesAt folder path place
  pub text : Text
  pub held : holds path text
  pub accepted : document_beside before.documents (unwrap_or uri place) (parsed_value text) ≡ Ok document
  pub documents : after.documents ≡ documents_with document before.documents
  pub places : (q : Text) → Contains after.places q ↔ (Contains before.places q ⊎ (q ≡ place))

abbrev pub IsAdded : Holds → Text → Text → Option Text → Document → Gathering → Gathering → Type 0
IsAdded holds folder path uri document before after = (place : Text) × IsAddedAt holds folder path place uri document before after

-- .. where none was read that lies there
pub record IsNew (holds : Holds) (folder path : Text) (document : Document) (before after : Gathering) : Type 0 where
  pub place : Text
  pub added : IsAddedAt holds folder path place None document before after
  pub unread : Contains before.places place → ⊥

-- it was read already
pub record WasRead (folder path : Text) (before after : Gathering) : Type 0 where
  pub place : Text
  pub lies : LiesAt folder path place
  pub read : Contains before.places place
  pub same : after ≡ before

-- one or the other, with the document that was added, if one was
abbrev pub IsGathered : Holds → Text → Text → Option Document → Gathering → Gathering → Type 0
IsGathered holds folder path None before after = WasRead folder path before after
IsGathered holds folder path (Some document) before after = IsNew holds folder path document before after

-- ---- files, one after the other
abbrev pub InTurn : {A : Type 0} → (A → Gathering → Gathering → Type 0) → List A → Gathering → Gathering → Type 0
InTurn Step [] before after = after ≡ before
InTurn Step (x ∷ xs) before after = (between : Gathering) × Step x before between × InTurn Step xs between after

abbrev pub FileIsGathered : Holds → Text → Text → Gathering → Gathering → Type 0
FileIsGathered holds folder path before after = (document : Option Document) × IsGathered holds folder path document before after

abbrev pub FilesAreGathered : Holds → Text → List Text → Gathering → Gathering → Type 0
FilesAreGathered holds folder = InTurn (FileIsGathered holds folder)

-- the files that a path names
pub record PathIsGathered (holds : Holds) (lists : Lists) (folder path : Text) (before after : Gathering) : Type 0 where
  pub files : List Text
  pub listed : lists path (endings_of false) files
  pub gathered : FilesAreGathered holds folder files before after

abbrev pub PathsAreGathered : Holds → Lists → Text → List Text → Gathering → Gathering → Type 0
PathsAreGathered holds lists folder = InTurn (PathIsGathered holds lists folder)

-- ---- all that is given
-- the documents of a batch, or none
abbrev pub IsLibrary : Holds → Option Text → List Document → Type 0
IsLibrary holds None documents = documents ≡ []
IsLibrary holds (Some path) documents = (text : Text) × holds path text × (library_of regular_search text ≡ Ok documents)

-- a schema alone has a URI of its own
abbrev pub root_uri : List Text → Option Text → Option Text
root_uri [] None = Some default_uri
root_uri paths uri = uri

abbrev pub Folder : Type 1
Folder = Text → Type 0

-- the library's documents, and no file's yet, where the program runs in this folder
pub record IsBegun (holds : Holds) (runs_in : Folder) (library : Option Text) (folder : Text) (gathering : Gathering) : Type 0 where
  pub runs : runs_in folder
  pub places : gathering.places ≡ []
  pub documents : IsLibrary holds library gathering.documents

-- the schema's document, beside those of the library and before those of the paths
pub record AreGathered (holds : Holds) (lists : Lists) (runs_in : Folder) (given : Documents) (schema : Text) (uri : Option Text) (root : Document) (documents : List Document) : Type 0 where
  pub folder : Text
  pub none : Gathering
  pub begun : IsBegun holds runs_in given.library folder none
  pub first : Gathering
  pub root_added : IsAdded holds folder schema (root_uri given.paths uri) root none first
  pub last : Gathering
  pub others : PathsAreGathered holds lists folder given.paths first last
  pub are : documents ≡ last.documents

-- ---- why there are none
-- the fault of a place
abbrev pub IsNoPlace : Text → Text → code.Fault → Type 0
IsNoPlace folder path fault = (uri : Text) × SpellsPath uri (path_in folder path) × (base_form uri ≡ Err (fault_view fault))

-- the fault of a text beside some documents
pub record IsRefusedText (holds : Holds) (folder path : Text) (uri : Option Text) (fault : code.Fault) : Type 0 where
  pub place : Text
  pub lies : LiesAt folder path place
  pub text : Text
  pub held : holds path text
  pub documents : List Document
  pub refused : is_for_pattern (fault_view fault) (builds_patterns (unwrap_or uri place) (parsed_value text)) ≡ false
      → document_beside documents (unwrap_or uri place) (parsed_value text) ≡ Err (fault_view fault)

-- a place can't be told
pub record IsUnplaced (folder path : Text) (trouble : Trouble) : Type 0 where
  pub fault : code.Fault
  pub is : IsRefusal path None fault trouble
  pub why : fault ≢ code.Fault.NoRoom → IsNoPlace folder path fault

pub record IsRefusedFile (holds : Holds) (folder path : Text) (uri : Option Text) (trouble : Trouble) : Type 0 where
  pub fault : code.Fault
  pub is : IsRefusal path None fault trouble
  pub why : fault ≢ code.Fault.NoRoom → IsRefusedText holds folder path uri fault

-- the file can't be read, or is refused
abbrev pub IsFileTrouble : Holds → Text → Text → Option Text → Trouble → Type 0
IsFileTrouble holds folder path uri trouble = IsUnread path trouble ⊎ IsUnplaced folder path trouble ⊎ IsRefusedFile holds folder path uri trouble

-- .. or the batch of a library
pub record IsRefusedBatch (holds : Holds) (path : Text) (trouble : Trouble) : Type 0 where
  pub fault : code.Fault
  pub is : IsRefusal path None fault trouble
  pub why : fault ≢ code.Fault.NoRoom → (text : Text) × holds path text × IsRefusedLibrary (batch_entries text) (fault_view fault)

abbrev pub IsLibraryTrouble : Holds → Option Text → Trouble → Type 0
IsLibraryTrouble holds None trouble = ⊥
IsLibraryTrouble holds (Some path) trouble = IsUnread path trouble ⊎ IsRefusedBatch holds path trouble

abbrev pub IsUnreadFolder : Trouble → Type 0
IsUnreadFolder trouble = (path : Text) × IsUnread path trouble

-- of a path: a folder below it that can't be read, or a file
abbrev pub IsPathTrouble : Holds → Text → Trouble → Type 0
IsPathTrouble holds folder trouble = (path : Text) × IsFileTrouble holds folder path None trouble

-- the trouble of what is given
abbrev pub IsGatheringTrouble : Holds → Folder → Documents → Text → Option Text → Trouble → Type 0
IsGatheringTrouble holds runs_in given schema uri trouble =
    IsLibraryTrouble holds given.library trouble
    ⊎ IsUnread (codes ".") trouble
    ⊎ ((folder : Text) × runs_in folder × (IsFileTrouble holds folder schema (root_uri given.paths uri) trouble ⊎ IsPathTrouble holds folder trouble))

-- A schema among the documents that were gathered.
use Rattle.std.specs.Prelude.{◌≡◌, ◌≢◌, ◌⊎◌, List, Option, Some, None, map, option_map, string_bytes}
use Rattle.command_line.specs.Calls.{Documents, documents_view}
use Rattle.definitions.specs.Reach.{reach}
use Rattle.definitions.specs.Schemas.{Document}
use Rattle.definitions.specs.Values.{Text}
use Rattle.faults.specs.View.{fault_view}
use Rattle.faults.specs.declared.Fault as code
use Rattle.file_checks.specs.FileSources.{file_documents}
use Rattle.file_forms.specs.Gathered.{AreGathered, Folder, Gathering, IsGatheringTrouble}
use Rattle.file_forms.specs.Judged.{IsLinkedAmong}
use Rattle.file_forms.specs.Refusals.{IsRefusal}
use Rattle.file_forms.specs.Subjects.{Holds, Lists}
use Rattle.file_forms.specs.Told.{TellsSome}
use Rattle.file_forms.specs.declared.gathering.Gathered.{Gathered}
use Rattle.file_forms.specs.declared.roots.Given as asked
use Rattle.file_forms.specs.declared.roots.Root.{Root}
use Rattle.file_forms.specs.declared.trouble.Trouble.{Trouble}
use Rattle.linker.specs.LinkFaults.{link_fault}
use Rattle.linker.specs.LinkedDocuments.{linked_uri}
use Rattle.linker.specs.declared.linked.Linked.{Linked}
use Rattle.schema_scan.specs.CompiledDocuments.{compiled_view}

abbrev pub folder_of : Gathered → Text
folder_of gathered = string_bytes gathered.folder

abbrev pub gathering_of : Gathered → Gathering
gathering_of gathered = record { places = map (λ p. string_bytes p) gathered.places.keys; documents = file_documents gathered.documents }

-- what is given: the documents, the file of the schema, and its URI, if any
pub record Given : Type 0 where
  pub documents : Documents
  pub schema : Text
  pub uri : Option Text

abbrev pub AreGivens : Holds → Lists → Folder → Given → Document → List Document → Type 0
AreGivens holds lists runs_in given root documents = AreGathered holds lists runs_in given.documents given.schema given.uri root documents

abbrev pub IsTroubleOf : Holds → Folder → Given → Trouble → Type 0
IsTroubleOf holds runs_in given trouble = IsGatheringTrouble holds runs_in given.documents given.schema given.uri trouble

-- the schema among them; or some troubles were told
abbrev pub IsRoot : Holds → Lists → Folder → Given → Option Root → Text → Text → Type 0
IsRoot holds lists runs_in given (Some root) before after =
    AreGivens holds lists runs_in given (compiled_view root.schema.value) (file_documents root.documents) × (after ≡ before)
IsRoot holds lists runs_in given None before after = TellsSome (IsTroubleOf holds runs_in given) before after

abbrev pub given_view : asked.Given → Given
given_view g = record { documents = documents_view g.documents.now; schema = g.schema.now; uri = option_map (λ u. u.now) g.uri }

-- ---- linked
-- the schema is linked with what it reaches
pub record IsLinkedFrom (root : Root) (linked : Linked) : Type 0 where
  pub uri : linked_uri linked ≡ (compiled_view root.schema.value).canonical
  pub among : IsLinkedAmong (file_documents root.documents) linked

-- the schema of the file isn't linked
pub record IsUnlinkedFrom (root : Root) (path : Text) (trouble : Trouble) : Type 0 where
  pub fault : code.Fault
  pub is : IsRefusal path None fault trouble
  pub why : fault ≢ code.Fault.NoRoom
      → link_fault (reach (file_documents root.documents) (compiled_view root.schema.value).canonical) ≡ Some (fault_view fault)

-- the schema is linked with what it reaches among the documents that were gathered
pub record IsLinkedRoot (holds : Holds) (lists : Lists) (runs_in : Folder) (given : Given) (linked : Linked) : Type 0 where
  pub root : Document
  pub documents : List Document
  pub gathered : AreGivens holds lists runs_in given root documents
  pub uri : linked_uri linked ≡ root.canonical
  pub among : IsLinkedAmong documents linked

-- a reference of what it reaches leads nowhere
pub record IsUnlinked (holds : Holds) (lists : Lists) (runs_in : Folder) (given : Given) (trouble : Trouble) : Type 0 where
  pub root : Document
  pub documents : List Document
  pub gathered : AreGivens holds lists runs_in given root documents
  pub fault : code.Fault
  pub is : IsRefusal given.schema None fault trouble
  pub why : fault ≢ code.Fault.NoRoom → link_fault (reach documents root.canonical) ≡ Some (fault_view fault)

abbrev pub IsRootTrouble : Holds → Lists → Folder → Given → Trouble → Type 0
IsRootTrouble holds lists runs_in given trouble =
    IsTroubleOf holds runs_in given trouble ⊎ IsUnlinked holds lists runs_in given trouble

abbrev pub IsLinkedSchema : Holds → Lists → Folder → Given → Option Linked → Text → Text → Type 0
IsLinkedSchema holds lists runs_in given (Some linked) before after = IsLinkedRoot holds lists runs_in given linked × (after ≡ before)
IsLinkedSchema holds lists runs_in given None before after = TellsSome (IsRootTrouble holds lists runs_in given) before after

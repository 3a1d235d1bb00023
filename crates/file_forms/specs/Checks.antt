-- How checks of several instances end.
use Rattle.std.specs.Prelude.{◌≡◌, ◌⊎◌, ℕ, List, Option}
use Rattle.command_line.specs.Calls.{Checks}
use Rattle.definitions.specs.Schemas.{Document}
use Rattle.definitions.specs.Values.{Text}
use Rattle.file_forms.specs.Accounts.{Accounts, State}
use Rattle.file_forms.specs.Gathered.{Folder}
use Rattle.file_forms.specs.Judged.{IsAccount, IsLinkedAmong, Judge}
use Rattle.file_forms.specs.Roots.{AreGivens, Given, IsRootTrouble}
use Rattle.file_forms.specs.Subjects.{Holds, Lists, OfArguments, Subject}
use Rattle.file_forms.specs.Told.{TellsSome}
use Rattle.linker.specs.LinkedDocuments.{linked_uri}
use Rattle.linker.specs.declared.linked.Linked.{Linked}

abbrev pub state_with : Text → Text → ℕ → State
state_with printed told status = record { printed = printed; told = told; status = status }

abbrev pub given_of : Checks → Given
given_of checks = record { documents = checks.documents; schema = checks.schema; uri = checks.uri }

abbrev pub judge_by : Checks → List Document → Text → Judge
judge_by checks documents uri = record { documents = documents; uri = uri; format = checks.format; quiet = checks.quiet }

-- there is an account of each instance that the arguments name, in order, by a linked schema, over whatever documents it was
-- linked among
pub record AreCheckedBy (holds : Holds) (lists : Lists) (checks : Checks) (linked : Linked) (input left : Option Text) (before after : State) : Type 0 where
  pub subjects : List Subject
  pub named : OfArguments holds lists checks.lines checks.instances input left subjects
  pub accounts : Accounts (λ a. (documents : List Document) → IsLinkedAmong documents linked → IsAccount (judge_by checks documents (linked_uri linked)) a) subjects before after

-- The documents are those that are given, and there is an account of each instance that the arguments name, in order, by the
-- schema among these documents
pub record AreChecked (holds : Holds) (lists : Lists) (runs_in : Folder) (checks : Checks) (input left : Option Text) (before after : State) : Type 0 where
  pub root : Document
  pub documents : List Document
  pub gathered : AreGivens holds lists runs_in (given_of checks) root documents
  pub subjects : List Subject
  pub named : OfArguments holds lists checks.lines checks.instances input left subjects
  pub accounts : Accounts (IsAccount (judge_by checks documents root.canonical)) subjects before after

-- nothing is printed, and it is told why there are no such documents, or why the schema isn't linked
pub record AreUnchecked (holds : Holds) (lists : Lists) (runs_in : Folder) (checks : Checks) (before after : State) : Type 0 where
  pub told : TellsSome (IsRootTrouble holds lists runs_in (given_of checks)) before.told after.told
  pub unprinted : after.printed ≡ before.printed
  pub status : after.status ≡ 2

abbrev pub EndsChecks : Holds → Lists → Folder → Checks → Option Text → Option Text → State → State → Type 0
EndsChecks holds lists runs_in checks input left before after =
    AreChecked holds lists runs_in checks input left before after ⊎ AreUnchecked holds lists runs_in checks before after

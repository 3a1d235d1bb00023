-- What the forms that judge files and folders print, and how they end.
use Rattle.std.specs.Prelude.{◌≡◌, ◌⊎◌, ◌≤◌, ◌<◌, ℕ, [], List, Option, Result, Ok, Err, ⊤}
use Rattle.command_line.specs.Calls.{Asked}
use Rattle.command_line.specs.Calls as call
use Rattle.definitions.specs.Values.{Text}
use Rattle.faults.specs.declared.Fault.TheVariants.{NoRoom}
use Rattle.file_forms.specs.Accounts.{State}
use Rattle.file_forms.specs.Bundles.{EndsBundle, HasWritten}
use Rattle.file_forms.specs.Checks.{EndsChecks, state_with}
use Rattle.file_forms.specs.Gathered.{Folder}
use Rattle.file_forms.specs.Subjects.{Holds, Lists}
use Rattle.serving.specs.Transfers.{Transfer, transferred_bytes}
use Rattle.service_forms.specs.declared.stop.Stop.{Stop}
use Rattle.service_forms.specs.declared.stop.Stop.TheVariants.{Refused, CannotWrite, Told}
use Rattle.schemareg.specs.Outputs.{IsFirstPart}

-- Files and folders: whether the file at a path holds a text, whether a path names files with such endings, whether the program
-- runs in a folder, and whether the file at a path was given a text
pub record Disk : Type 1 where
  pub holds : Holds
  pub lists : Lists
  pub runs_in : Folder
  pub has_written : HasWritten

-- nothing is known of them
abbrev pub unknown_disk : Disk
unknown_disk = record { holds = λ _ _. ⊤; lists = λ _ _ _. ⊤; runs_in = λ _. ⊤; has_written = λ _ _. ⊤ }

-- from what was printed and told before to what was behind, with the status
abbrev pub Ending : Type 1
Ending = State → State → Type 0

abbrev pub EndsScan : Ending
EndsScan before after = after.status ≤ 2

-- how a form over the disk ends, where standard input had the first text left before, and behind it the second
abbrev pub OnForm : Disk → Option Text → Option Text → Asked → (Ending → Type 0) → Type 0
OnForm disk input left (call.check_many checks) P = P (EndsChecks disk.holds disk.lists disk.runs_in checks input left)
OnForm disk input left (call.bundle bundling) P = P (EndsBundle disk.holds disk.lists disk.runs_in disk.has_written bundling)
OnForm disk input left (call.scan scanning) P = P EndsScan
OnForm disk input left _ P = ⊤

-- All that was printed is written, and the status is the form's, if that is 0 or 1; or standard output can't be written, and a
-- first part is
abbrev pub IsShown : Text → ℕ → Result ℕ Stop → List Transfer → Type 0
IsShown printed ended (Ok status) after = (status ≡ ended) × (transferred_bytes after ≡ printed)
IsShown printed ended (Err Told) after = (1 < ended) × (transferred_bytes after ≡ printed)
IsShown printed ended (Err CannotWrite) after = IsFirstPart (transferred_bytes after) printed
IsShown printed ended (Err _) after = ⊥

-- the form ends so, and what it printed stands behind what was written before
pub record EndsForm (Ends : Ending) (before : List Transfer) (result : Result ℕ Stop) (after : List Transfer) : Type 0 where
  pub end : State
  pub ends : Ends (state_with (transferred_bytes before) [] 0) end
  pub shown : IsShown end.printed end.status result after

-- .. or memory ran out before it began
abbrev pub LacksRoom : Result ℕ Stop → Type 0
LacksRoom (Err (Refused f)) = f ≡ NoRoom
LacksRoom _ = ⊥

abbrev pub EndsFormIfRoom : Ending → List Transfer → Result ℕ Stop → List Transfer → Type 0
EndsFormIfRoom Ends before result after = EndsForm Ends before result after ⊎ (LacksRoom result × (after ≡ before))

-- ---- with the status of the program
-- the form's, or 2 where that is more than 1
abbrev pub IsStatus : ℕ → ℕ → Type 0
IsStatus ended status = (status ≡ ended) ⊎ ((1 < ended) × (status ≡ 2))

abbrev pub IsShownWith : Text → ℕ → ℕ → List Transfer → Type 0
IsShownWith printed ended status after =
    (IsStatus ended status × (transferred_bytes after ≡ printed)) ⊎ ((status ≡ 2) × IsFirstPart (transferred_bytes after) printed)

pub record EndsFormWith (Ends : Ending) (before : List Transfer) (status : ℕ) (after : List Transfer) : Type 0 where
  pub end : State
  pub ends : Ends (state_with (transferred_bytes before) [] 0) end
  pub shown : IsShownWith end.printed end.status status after

abbrev pub EndsFormWithIfRoom : Ending → List Transfer → ℕ → List Transfer → Type 0
EndsFormWithIfRoom Ends before status after = EndsFormWith Ends before status after ⊎ ((status ≡ 2) × (after ≡ before))

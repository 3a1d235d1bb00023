-- The text of a bundle of files.
use Rattle.std.specs.Prelude.{◌≡◌, ◌≢◌, ◌⊎◌, ◌++◌, ◌∷◌, [], Err, Ok, Option, Some, None, IfSome}
use Rattle.command_line.specs.Calls.{Bundling}
use Rattle.definitions.specs.Bundles.{bundle}
use Rattle.definitions.specs.Bytes.{line_feed}
use Rattle.definitions.specs.Texts.{text}
use Rattle.definitions.specs.Values.{Text, Value}
use Rattle.faults.specs.View.{fault_view}
use Rattle.faults.specs.declared.Fault as code
use Rattle.file_forms.specs.Accounts.{State}
use Rattle.file_forms.specs.Gathered.{Folder}
use Rattle.file_forms.specs.Refusals.{IsRefusal, IsUnwritten}
use Rattle.file_forms.specs.Roots.{Given, IsLinkedRoot, IsRootTrouble}
use Rattle.file_forms.specs.Subjects.{Holds, Lists}
use Rattle.file_forms.specs.Told.{TellsSome}
use Rattle.file_forms.specs.declared.trouble.Trouble.{Trouble}
use Rattle.linker.specs.LinkedDocuments.{linked_documents, linked_uri}
use Rattle.linker.specs.declared.linked.Linked.{Linked}

abbrev pub given_in : Bundling → Given
given_in bundling = record { documents = bundling.documents; schema = bundling.schema; uri = bundling.uri }

-- ---- by a linked schema
-- the compact text of the bundle of what was linked, as a line
pub record IsBundleOf (linked : Linked) (whole : Text) : Type 0 where
  pub value : Value
  pub bundled : bundle (linked_documents linked) (linked_uri linked) ≡ Ok value
  pub written : whole ≡ text value ++ line_feed ∷ []

-- whether the file at a path was given a text
abbrev pub HasWritten : Type 1
HasWritten = Text → Text → Type 0

-- standard output gets the text; or the file gets it, and nothing is printed
abbrev pub IsGiven : HasWritten → Option Text → Text → Text → Text → Type 0
IsGiven has_written None whole before after = after ≡ before ++ whole
IsGiven has_written (Some path) whole before after = has_written path whole × (after ≡ before)

pub record IsGivenBundle (has_written : HasWritten) (out : Option Text) (linked : Linked) (before after : Text) : Type 0 where
  pub whole : Text
  pub is_bundle : IsBundleOf linked whole
  pub given : IsGiven has_written out whole before after

-- the schema of the file has no bundle
pub record HasNoBundle (linked : Linked) (path : Text) (trouble : Trouble) : Type 0 where
  pub fault : code.Fault
  pub is : IsRefusal path None fault trouble
  pub why : fault ≢ code.Fault.NoRoom → bundle (linked_documents linked) (linked_uri linked) ≡ Err (fault_view fault)

-- it has none, or the file can't be written
abbrev pub IsUngiven : Linked → Text → Option Text → Trouble → Type 0
IsUngiven linked path out trouble = HasNoBundle linked path trouble ⊎ IfSome out (λ o. IsUnwritten o trouble)

-- ---- of just the documents that are given
-- the bundle is given, and nothing else is printed or told
pub record IsBundled (holds : Holds) (lists : Lists) (runs_in : Folder) (has_written : HasWritten) (bundling : Bundling) (before after : State) : Type 0 where
  pub linked : Linked
  pub root : IsLinkedRoot holds lists runs_in (given_in bundling) linked
  pub given : IsGivenBundle has_written bundling.out linked before.printed after.printed
  pub untold : after.told ≡ before.told
  pub status : after.status ≡ 0

-- why there is none
pub record HasNone (holds : Holds) (lists : Lists) (runs_in : Folder) (bundling : Bundling) (trouble : Trouble) : Type 0 where
  pub linked : Linked
  pub root : IsLinkedRoot holds lists runs_in (given_in bundling) linked
  pub ungiven : IsUngiven linked bundling.schema bundling.out trouble

abbrev pub IsBundleTrouble : Holds → Lists → Folder → Bundling → Trouble → Type 0
IsBundleTrouble holds lists runs_in bundling trouble =
    IsRootTrouble holds lists runs_in (given_in bundling) trouble ⊎ HasNone holds lists runs_in bundling trouble

-- nothing is printed, and it is told why
pub record IsUnbundled (Is : Trouble → Type 0) (before after : State) : Type 0 where
  pub told : TellsSome Is before.told after.told
  pub unprinted : after.printed ≡ before.printed
  pub status : after.status ≡ 2

abbrev pub EndsBundle : Holds → Lists → Folder → HasWritten → Bundling → State → State → Type 0
EndsBundle holds lists runs_in has_written bundling before after =
    IsBundled holds lists runs_in has_written bundling before after ⊎ IsUnbundled (IsBundleTrouble holds lists runs_in bundling) before after

-- .. of a linked schema
pub record IsBundledBy (has_written : HasWritten) (bundling : Bundling) (linked : Linked) (before after : State) : Type 0 where
  pub given : IsGivenBundle has_written bundling.out linked before.printed after.printed
  pub untold : after.told ≡ before.told
  pub status : after.status ≡ 0

abbrev pub EndsBundleOf : HasWritten → Bundling → Linked → State → State → Type 0
EndsBundleOf has_written bundling linked before after =
    IsBundledBy has_written bundling linked before after ⊎ IsUnbundled (IsUngiven linked bundling.schema bundling.out) before after

-- A check of what may be a folder.
use Rattle.std.specs.Prelude.{◌≡◌, ◌⊎◌, ◌∷◌, [], Bool, true, false, Option, Some, None, if◌then◌else◌}
use Rattle.command_line.specs.Calls.{Asked}
use Rattle.command_line.specs.Calls as call
use Rattle.command_line.specs.declared.call.Format.TheVariants.{Text as ForPeople}
use Rattle.definitions.specs.Values.{Text}
use Rattle.service_forms.specs.Files.{may_be_folder}

-- whether a folder is there, if that is known
abbrev pub is_folder_in : (Text → Option Text) → (Text → Bool) → (Text → Option Bool) → Text → Option Bool
is_folder_in files unreadable folders path = if may_be_folder files unreadable path then folders path else Some false

-- the check of a folder's files by the schema under the URI
abbrev pub folder_check : Text → Text → Text → Asked
folder_check uri schema folder = call.check_many (record {
  documents = record { library = None; paths = [] };
  uri = Some uri;
  schema = schema;
  instances = folder ∷ [];
  lines = false;
  format = ForPeople;
  quiet = false;
})

-- of a file the first, of a folder the second, and one of both where it isn't known which is there
abbrev pub ByFolder : Option Bool → Type 0 → Type 0 → Type 0
ByFolder (Some false) OfFile OfFolder = OfFile
ByFolder (Some true) OfFile OfFolder = OfFolder
ByFolder None OfFile OfFolder = OfFile ⊎ OfFolder

-- this holds of the call as it is carried out: a check whose instance is a folder as that of the folder's files
abbrev pub CarriedOut : (Text → Option Bool) → Asked → (Asked → Type 0) → Type 0
CarriedOut is_folder (call.check uri schema instance) P =
    ByFolder (is_folder instance) (P (call.check uri schema instance)) (P (folder_check uri schema instance))
CarriedOut is_folder asked P = P asked

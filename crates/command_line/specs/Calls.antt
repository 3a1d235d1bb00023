-- What a command line asks for.
use Rattle.std.specs.Prelude.{◌≡◌, ◌&&◌, ◌||◌, ℕ, Bool, false, not, map, List, [], ◌∷◌, Option, Some, None, is_some, option_map, option_and_then, unwrap_or, if◌then◌else◌, codes}
use Rattle.std.specs.Option.{option_map_or}
use Rattle.std.specs.Str.{bytes_eq}
use Rattle.std.specs.Str.Parse.{digits_value, without_leading_plus}
use Rattle.clap.specs.Words.{Row, Text, all_of, fault_of, first_of, one_of, subcommand_of}
use Rattle.clap.specs.ValueTests.{is_unsigned_in}
use Rattle.clap.specs.Kinds.{Kinds, or_else}
use Rattle.clap.specs.declared.error.kind.ErrorKind.TheVariants.{ArgumentConflict, InvalidValue}
use Rattle.command_line.specs.declared.call.Call.{Call}
use Rattle.command_line.specs.declared.call.Call.TheVariants as call
use Rattle.command_line.specs.declared.call.Bundling as bundled
use Rattle.command_line.specs.declared.call.Checks as checked
use Rattle.command_line.specs.declared.call.Documents as given
use Rattle.command_line.specs.declared.call.Format.{Format}
use Rattle.command_line.specs.declared.call.Format.TheVariants.{Text as ForPeople, Json, Github}
use Rattle.command_line.specs.declared.call.Limits as code
use Rattle.command_line.specs.declared.call.Logging as told
use Rattle.command_line.specs.declared.call.Scanning as scanned
use Rattle.command_line.specs.declared.call.Setup.{Setup}
use Rattle.command_line.specs.Commands.{program}

-- What registries start from: the file of the tenants, the file of the library, if any, the file in which the documents
-- are kept, if any, and how many compiled documents are kept at most
pub record Start : Type 0 where
  pub tenants : Text
  pub library : Option Text
  pub store : Option Text
  pub cache : ℕ

-- The limits of connections that are served side by side: how many there are at most, after how many seconds without a
-- byte one is ended, how many seconds one may be open, and how many bytes all keep together
pub record Limits : Type 0 where
  pub connections : ℕ
  pub idle : ℕ
  pub whole : Option ℕ
  pub memory : ℕ

-- where it is told how connections go, and whether each request is told
pub record Logging : Type 0 where
  pub file : Option Text
  pub requests : Bool

-- the documents that references run over beside what is judged: the file of a batch, if any, and the paths of files and
-- folders
pub record Documents : Type 0 where
  pub library : Option Text
  pub paths : List Text

-- Checks of several instances: the documents, the URI of the schema, if any, the file of the schema, the files and folders of
-- the instances, whether each of their lines is one, what is printed of each, and whether of the wrong ones alone
pub record Checks : Type 0 where
  pub documents : Documents
  pub uri : Option Text
  pub schema : Text
  pub instances : List Text
  pub lines : Bool
  pub format : Format
  pub quiet : Bool

-- a bundle: the documents, the URI of the schema, if any, the file of the schema, and the file that gets the bundle, if any
pub record Bundling : Type 0 where
  pub documents : Documents
  pub uri : Option Text
  pub schema : Text
  pub out : Option Text

-- a scan: the documents, the files and folders of schemas, and whether the wrong ones alone are told
pub record Scanning : Type 0 where
  pub documents : Documents
  pub schemas : List Text
  pub quiet : Bool

pub data Asked : Type 0 where
  -- standard input holds the check
  input : Asked
  -- the URI of the schema, the file of the schema, the file of the instance
  check : Text → Text → Text → Asked
  check_many : Checks → Asked
  bundle : Bundling → Asked
  scan : Scanning → Asked
  -- one connection on standard input and output
  run : Start → Asked
  -- the address, and how many connections are accepted there
  serve : Start → Text → ℕ → Asked
  -- the address, at which connections are served side by side
  serve_many : Start → Text → Limits → Logging → Asked

abbrev pub setup_view : Setup → Start
setup_view setup = record {
  tenants = setup.tenants.now;
  library = option_map (λ s. s.now) setup.library;
  store = option_map (λ s. s.now) setup.store;
  cache = setup.cache;
}

abbrev pub limits_view : code.Limits → Limits
limits_view limits = record { connections = limits.connections; idle = limits.idle; whole = limits.whole; memory = limits.memory }

abbrev pub logging_view : told.Logging → Logging
logging_view logging = record { file = option_map (λ s. s.now) logging.file; requests = logging.requests }

abbrev pub documents_view : given.Documents → Documents
documents_view documents = record { library = option_map (λ s. s.now) documents.library; paths = map (λ s. s.now) documents.paths.items }

abbrev pub checks_view : checked.Checks → Checks
checks_view checks = record {
  documents = documents_view checks.documents;
  uri = option_map (λ s. s.now) checks.uri;
  schema = checks.schema.now;
  instances = map (λ s. s.now) checks.instances.items;
  lines = checks.lines;
  format = checks.format;
  quiet = checks.quiet;
}

abbrev pub bundling_view : bundled.Bundling → Bundling
bundling_view bundling = record {
  documents = documents_view bundling.documents;
  uri = option_map (λ s. s.now) bundling.uri;
  schema = bundling.schema.now;
  out = option_map (λ s. s.now) bundling.out;
}

abbrev pub scanning_view : scanned.Scanning → Scanning
scanning_view scanning = record {
  documents = documents_view scanning.documents;
  schemas = map (λ s. s.now) scanning.schemas.items;
  quiet = scanning.quiet;
}

abbrev pub call_view : Call → Asked
call_view call.Input = input
call_view (call.Check uri schema instance) = check uri.now schema.now instance.now
call_view (call.CheckMany checks) = check_many (checks_view checks)
call_view (call.Bundle bundling) = bundle (bundling_view bundling)
call_view (call.Scan scanning) = scan (scanning_view scanning)
call_view (call.Run setup) = run (setup_view setup)
call_view (call.Serve setup listen accept) = serve (setup_view setup) listen.now accept
call_view (call.ServeMany setup listen limits logging) = serve_many (setup_view setup) listen.now (limits_view limits) (logging_view logging)

-- the first value that the words gave to an argument
abbrev pub value_of : Text → List Row → Text
value_of id rows = unwrap_or (first_of id rows) []

-- the number of 32 bits that a text spells in decimal digits, if it spells one
abbrev pub number_in : Text → Option ℕ
number_in text = if is_unsigned_in 0 4294967295 text then Some (digits_value 10 (without_leading_plus text)) else None

-- the number that an argument has, if any
abbrev pub given_number : Text → List Row → Option ℕ
given_number id rows = option_and_then number_in (one_of id rows)

-- .. or another
abbrev pub number_or : ℕ → Text → List Row → ℕ
number_or other id rows = unwrap_or (given_number id rows) other

-- the words set the flag
abbrev pub is_set : Text → List Row → Bool
is_set id rows = option_map_or (λ text. bytes_eq text (codes "true")) (first_of id rows) false

-- all values that the words gave to an argument
abbrev pub values_of : Text → List Row → List Text
values_of id rows = unwrap_or (all_of id rows) []

-- ---- `check`
abbrev pub default_uri : Text
default_uri = codes "urn:schemareg:root"

-- the one instance of a check as it always was: a file, by its name
abbrev pub one_file : List Text → Option Text
one_file (instance ∷ []) = if bytes_eq instance (codes "-") then None else Some instance
one_file _ = None

-- an option is given that a check of one file hasn't
abbrev pub has_more_options : List Row → Bool
has_more_options rows =
    is_some (first_of (codes "library") rows) || is_some (first_of (codes "with") rows) || is_set (codes "lines") rows
    || is_some (first_of (codes "format") rows) || is_set (codes "quiet") rows

abbrev pub asked_documents : List Row → Documents
asked_documents rows = record { library = first_of (codes "library") rows; paths = values_of (codes "with") rows }

-- the format with this name, if there is one
abbrev pub format_named : Text → Option Format
format_named name =
    if bytes_eq name (codes "text") then Some ForPeople
    else if bytes_eq name (codes "json") then Some Json
    else if bytes_eq name (codes "github") then Some Github
    else None

abbrev pub asked_format : List Row → Format
asked_format rows = unwrap_or (option_and_then format_named (first_of (codes "format") rows)) ForPeople

abbrev pub asked_checks : List Row → Checks
asked_checks rows = record {
  documents = asked_documents rows;
  uri = first_of (codes "uri") rows;
  schema = value_of (codes "SCHEMA") rows;
  instances = values_of (codes "INSTANCE") rows;
  lines = is_set (codes "lines") rows;
  format = asked_format rows;
  quiet = is_set (codes "quiet") rows;
}

-- one file alone, under a URI that has a default; or several instances, where there are other words
abbrev pub check_of : Option Text → List Row → Asked
check_of (Some instance) rows = check (unwrap_or (first_of (codes "uri") rows) default_uri) (value_of (codes "SCHEMA") rows) instance
check_of None rows = check_many (asked_checks rows)

abbrev pub asked_check : List Row → Asked
asked_check rows = check_of (if has_more_options rows then None else one_file (values_of (codes "INSTANCE") rows)) rows

-- ---- `bundle` and `scan`
abbrev pub asked_bundling : List Row → Bundling
asked_bundling rows = record {
  documents = asked_documents rows;
  uri = first_of (codes "uri") rows;
  schema = value_of (codes "SCHEMA") rows;
  out = first_of (codes "out") rows;
}

abbrev pub asked_scanning : List Row → Scanning
asked_scanning rows = record { documents = asked_documents rows; schemas = values_of (codes "SCHEMA") rows; quiet = is_set (codes "quiet") rows }

-- ---- `run` and `serve`

abbrev pub asked_start : List Row → Start
asked_start rows = record {
  tenants = value_of (codes "tenants") rows;
  library = first_of (codes "library") rows;
  store = first_of (codes "store") rows;
  cache = number_or 0 (codes "cache") rows;
}

abbrev pub asked_limits : List Row → Limits
asked_limits rows = record {
  connections = number_or 1000 (codes "connections") rows;
  idle = number_or 30 (codes "idle") rows;
  whole = given_number (codes "whole") rows;
  memory = number_or 268435456 (codes "memory") rows;
}

abbrev pub asked_logging : List Row → Logging
asked_logging rows = record { file = first_of (codes "log") rows; requests = is_set (codes "log-requests") rows }

-- so many connections, one after the other; or connections side by side, where no number is given
abbrev pub service_of : Start → Text → Limits → Logging → Option ℕ → Asked
service_of start listen limits logging (Some accept) = serve start listen accept
service_of start listen limits logging None = serve_many start listen limits logging

abbrev pub asked_service : List Row → Asked
asked_service rows =
    service_of (asked_start rows) (value_of (codes "listen") rows) (asked_limits rows) (asked_logging rows) (given_number (codes "accept") rows)

-- what the words of the form with this name ask for
abbrev pub asked_form : Text → List Row → Asked
asked_form name rows =
    if bytes_eq name (codes "run") then run (asked_start rows)
    else if bytes_eq name (codes "serve") then asked_service rows
    else if bytes_eq name (codes "bundle") then bundle (asked_bundling rows)
    else if bytes_eq name (codes "scan") then scan (asked_scanning rows)
    else asked_check rows

-- what the words ask for by the form that they name, if any
abbrev pub asked_call : Option (Text × List Row) → Asked
asked_call None = input
asked_call (Some form) = asked_form form.0 form.1

-- the words of a command line, the program's name first
abbrev pub call_of : List Text → Asked
call_of words = asked_call (subcommand_of program words)

-- ---- what is wrong with the words
-- an option is given that is for connections side by side alone
abbrev pub are_for_many : List Row → Bool
are_for_many rows =
    is_some (first_of (codes "connections") rows) || is_some (first_of (codes "idle") rows) || is_some (first_of (codes "whole") rows)
    || is_some (first_of (codes "memory") rows) || is_some (first_of (codes "log") rows) || is_set (codes "log-requests") rows

-- .. and how many are served one after the other
abbrev pub are_in_conflict : List Row → Bool
are_in_conflict rows = is_some (given_number (codes "accept") rows) && are_for_many rows

-- a format is named that there isn't
abbrev pub has_no_format : List Row → Bool
has_no_format rows = option_map_or (λ name. not (is_some (format_named name))) (first_of (codes "format") rows) false

abbrev pub conflict_in : Text → List Row → Kinds
conflict_in name rows =
    if bytes_eq name (codes "serve") && are_in_conflict rows then ArgumentConflict ∷ []
    else if bytes_eq name (codes "check") && has_no_format rows then InvalidValue ∷ []
    else []

abbrev pub conflict_of : Option (Text × List Row) → Kinds
conflict_of None = []
conflict_of (Some form) = conflict_in form.0 form.1

-- the first thing that is wrong with the words, by its kinds
abbrev pub faults_of : List Text → Kinds
faults_of words = or_else (fault_of program words) (conflict_of (subcommand_of program words))

-- nothing is wrong with the words, and this is what they ask for
abbrev pub Means : List Text → Asked → Type 0
Means words call = (faults_of words ≡ []) × (call_of words ≡ call)

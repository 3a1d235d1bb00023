-- The forms of a command line, as they are written.
use Rattle.std.specs.Prelude.{◌≡◌, ◌==◌, List, [], ◌∷◌, Bool, true, not, codes, Result, MatchResult}
use Rattle.clap.specs.Words.{Text, kind_of}
use Rattle.clap.specs.declared.error.Error.{Error}
use Rattle.clap.specs.declared.error.kind.ErrorKind.{ErrorKind}
use Rattle.clap.specs.declared.error.kind.ErrorKind.TheVariants.{DisplayHelp, DisplayVersion, OutOfMemory}
use Rattle.command_line.specs.declared.call.Call.{Call}
use Rattle.command_line.specs.Calls.{Asked, input, check, call_view}

-- a word that is no flag, since it doesn't begin with `-` (45)
abbrev pub is_plain : Text → Bool
is_plain [] = true
is_plain (c ∷ cs) = not (c == 45)

-- the words, the program's own name first, and what they ask for
pub data Spells : List Text → Asked → Type 0 where
  no_words : (program : Text) → Spells (program ∷ []) input
  two_files : (program schema instance : Text) → is_plain schema ≡ true → is_plain instance ≡ true
      → Spells (program ∷ codes "check" ∷ schema ∷ instance ∷ []) (check (codes "urn:schemareg:root") schema instance)
  with_uri : (program uri schema instance : Text) → is_plain uri ≡ true → is_plain schema ≡ true → is_plain instance ≡ true
      → Spells (program ∷ codes "check" ∷ codes "--uri" ∷ uri ∷ schema ∷ instance ∷ []) (check uri schema instance)

-- the call that is asked for, unless memory runs out
abbrev pub IsCall : Asked → Result Call Error → Type 0
IsCall wanted r = MatchResult r (λ call. call_view call ≡ wanted) (λ e. kind_of e ≡ OutOfMemory)

-- the words that ask for help or for the version, and the kind of error that answers them
pub data Asks : List Text → ErrorKind → Type 0 where
  help : (program : Text) → Asks (program ∷ codes "--help" ∷ []) DisplayHelp
  version : (program : Text) → Asks (program ∷ codes "--version" ∷ []) DisplayVersion

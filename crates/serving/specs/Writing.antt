-- What is written.
use Rattle.std.specs.Prelude.{◌≡◌, ◌⊎◌, List, [], ◌∷◌, ◌++◌, Some, None, Result, Ok, Err}
use Rattle.definitions.specs.Values.{Text}
use Rattle.faults.specs.declared.Fault.{Fault}
use Rattle.faults.specs.declared.Fault.TheVariants.{WriteFailed}
use Rattle.serving.specs.Transfers.{Transfer, transferred_bytes}
use Rattle.serving.specs.declared.failure.Failure.{Failure}
use Rattle.serving.specs.declared.failure.Failure.TheVariants as failure

-- all of these bytes
pub record Writes (before : List Transfer) (bytes : Text) (after : List Transfer) : Type 0 where
  pub writes : List Transfer
  pub on : after ≡ before ++ writes
  pub whole : transferred_bytes writes ≡ bytes

-- a write that failed, or took none of some bytes
abbrev pub IsBroken : Transfer → Type 0
IsBroken t = (t ≡ None) ⊎ (t ≡ Some [])

-- a first part of these bytes, up to a broken write
pub record WritesSome (before : List Transfer) (bytes : Text) (after : List Transfer) : Type 0 where
  pub writes : List Transfer
  pub last : Transfer
  pub on : after ≡ before ++ (writes ++ (last ∷ []))
  pub rest : Text
  pub part : bytes ≡ transferred_bytes writes ++ rest
  pub broken : IsBroken last

abbrev pub IsWriting : List Transfer → Text → Result (Unit {0}) Fault → List Transfer → Type 0
IsWriting before bytes (Ok u) after = Writes before bytes after
IsWriting before bytes (Err f) after = (f ≡ WriteFailed) × WritesSome before bytes after

-- .. and a write that fails is a failure
abbrev pub TellsBytes : List Transfer → Text → Result (Unit {0}) Failure → List Transfer → Type 0
TellsBytes before bytes (Ok u) after = Writes before bytes after
TellsBytes before bytes (Err e) after = (e ≡ failure.Fault WriteFailed) × WritesSome before bytes after

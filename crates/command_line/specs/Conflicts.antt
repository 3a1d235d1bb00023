-- What is wrong with words, beside what `clap` says of them.
use Rattle.std.specs.Prelude.{[], ◌∷◌, Option, Some, None}
use Rattle.clap.specs.Kinds.{Kinds}
use Rattle.clap.specs.declared.error.kind.ErrorKind.{ErrorKind}
use Rattle.clap.specs.declared.error.kind.ErrorKind.TheVariants.{ArgumentConflict, InvalidValue}
use Rattle.command_line.specs.declared.conflicts.Conflict.{Conflict}
use Rattle.command_line.specs.declared.conflicts.Conflict.TheVariants.{BesideAccept, NoFormat}

abbrev pub conflict_kind : Conflict → ErrorKind
conflict_kind (BesideAccept option) = ArgumentConflict
conflict_kind (NoFormat name) = InvalidValue

abbrev pub kinds_of : Option Conflict → Kinds
kinds_of None = []
kinds_of (Some c) = conflict_kind c ∷ []

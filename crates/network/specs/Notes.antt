-- The call that a note stands for.
use Rattle.std.specs.Prelude.{Option, Some, None}
use Rattle.network.specs.Traffic.{Moved}
use Rattle.network.specs.declared.transcript.Note.{Note}
use Rattle.network.specs.declared.transcript.Note.TheVariants as note

abbrev pub call_in : Note → Option Moved
call_in (note.Moved id bytes) = Some (id, bytes.now)
call_in note.Failed = None

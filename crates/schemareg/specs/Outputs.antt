-- What is given to be written, and what of it is.
use Rattle.std.specs.Prelude.{◌≡◌, ◌++◌, [], List, Bool, true, false, Option, Some, None}
use Rattle.definitions.specs.Values.{Text}
use Rattle.network.specs.declared.transcript.Transcript.{Transcript}
use Rattle.network.specs.Transcripts.{transfers_of}
use Rattle.serving.specs.Transfers.{Transfer, transferred_bytes}

abbrev pub bytes_in : Transcript → Text
bytes_in t = transferred_bytes (transfers_of t)

-- what is never written, once a write was broken
abbrev pub lost_text : Option Transcript → Text
lost_text None = []
lost_text (Some t) = bytes_in t

-- all that was given up to now: what was written, what was lost, and what is still to be written
abbrev pub given_text : List Transfer → Option Transcript → Text → Text
given_text writes lost pending = transferred_bytes writes ++ (lost_text lost ++ pending)

-- a first part
pub record IsFirstPart (part whole : Text) : Type 0 where
  pub rest : Text
  pub are : whole ≡ part ++ rest

-- whether all of it was written; else a first part was
abbrev pub IsWritten : Text → Bool → List Transfer → Type 0
IsWritten whole true writes = transferred_bytes writes ≡ whole
IsWritten whole false writes = IsFirstPart (transferred_bytes writes) whole

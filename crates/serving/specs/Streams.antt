-- A reader or a writer of std, and its transfers.
use Rattle.std.specs.Prelude.{List}
use Rattle.network.specs.Transcripts as transcripts
use Rattle.serving.specs.Transfers.{Transfer}
use Rattle.serving.specs.declared.recorded.Recorded.{Recorded}

abbrev pub stream_of : {S : Type 0} → Recorded S → S
stream_of s = s.stream

abbrev pub transfers_of : {S : Type 0} → Recorded S → List Transfer
transfers_of s = transcripts.transfers_of s.transcript

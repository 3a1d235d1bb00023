-- What was moved on many sockets.
use Rattle.std.specs.Prelude.{◌≡◌, List}
use Rattle.network.specs.Traffic.{Moved}
use Rattle.network.specs.Transcripts.{moves_of}
use Rattle.sockets.specs.declared.sockets.Sockets.{Sockets}

abbrev pub reads_of : {C : Type 0} → Sockets C → List Moved
reads_of s = moves_of s.reads

abbrev pub writes_of : {C : Type 0} → Sockets C → List Moved
writes_of s = moves_of s.writes

-- nothing is moved, and nobody gives way
abbrev pub MovesNothing : {C : Type 0} → Sockets C → Sockets C → Type 0
MovesNothing old new = (new.reads ≡ old.reads) × (new.writes ≡ old.writes) × (new.ways ≡ old.ways)

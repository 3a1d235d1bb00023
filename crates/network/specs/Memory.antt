-- What was moved on connections over memory.
use Rattle.std.specs.Prelude.{List}
use Rattle.network.specs.Traffic.{Moved}
use Rattle.network.specs.Transcripts.{moves_of}
use Rattle.network.specs.declared.memory.MemoryNetwork.{MemoryNetwork}

abbrev pub reads_of : MemoryNetwork → List Moved
reads_of s = moves_of s.reads

abbrev pub writes_of : MemoryNetwork → List Moved
writes_of s = moves_of s.writes

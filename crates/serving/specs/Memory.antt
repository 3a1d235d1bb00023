-- The transfers of readers and writers over memory.
use Rattle.std.specs.Prelude.{List}
use Rattle.network.specs.Transcripts.{transfers_of}
use Rattle.serving.specs.Transfers.{Transfer}
use Rattle.serving.specs.declared.memory.MemoryReader.{MemoryReader}
use Rattle.serving.specs.declared.memory.MemoryWriter.{MemoryWriter}

abbrev pub reads_of : MemoryReader → List Transfer
reads_of s = transfers_of s.transcript

abbrev pub writes_of : MemoryWriter → List Transfer
writes_of s = transfers_of s.transcript

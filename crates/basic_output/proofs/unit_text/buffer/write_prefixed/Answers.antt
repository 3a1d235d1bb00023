use Rattle.basic_output.proofs.BufferLaws.{written_on}
use Rattle.basic_output.proofs.unit_text.buffer.write_prefixed.Goals as goal

pub returns-clause-written : goal.returns-clause-written
returns-clause-written c = written_on c.write-behind.ensures.written c.write.ensures.written

use Rattle.basic_output.proofs.BufferLaws.{written_behind, written_in}
use Rattle.basic_output.proofs.unit_text.buffer.TextBuffer.push_prefixed.Goals as goal

pub invariant_of-self : goal.invariant_of-self
invariant_of-self c =
    let is = written_in c.make_room.new.self c.as_mut_slice.ensures.value c.write_prefixed-self.ensures.len c.write_prefixed-self.ensures.written in
    record { within = is.within; utf8 = written_behind c.make_room.new.self is }

use Rattle.std.proofs.Common.{take, subst, sym}
use Rattle.std.specs.Str.{IsUtf8}
use Rattle.basic_output.specs.Buffers.{buffer_text}
use Rattle.basic_output.proofs.BufferLaws.{whole_buffer}
use Rattle.basic_output.proofs.unit_text.buffer.TextBuffer.as_str.Goals as goal

pub from_utf8_unchecked-requires : goal.from_utf8_unchecked-requires
unfolding buffer_text
from_utf8_unchecked-requires c = subst (λ b. IsUtf8 (take c.args.self.now.len b)) (sym c.deref.ensures.value) (whole_buffer c.args.self.now)

use Rattle.std.proofs.Common.{string_bytes}
use Rattle.uri_ref.proofs.Rules.{popped}
use Rattle.uri_ref.proofs.dots.pop_segment.Goals as goal

pub returns : goal.returns
returns c =
    rw (c.truncate.ensures.bytes, c.unwrap_or-end.ensures)
    (popped (string_bytes c.args.output.now) c.last_slash.result (rw c.as_str.ensures.value at c.last_slash.ensures))

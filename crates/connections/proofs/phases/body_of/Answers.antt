use Rattle.std.proofs.Common.{arith, ap, length, length-append}
use Rattle.httparse.specs.Grammar.{print_request}
use Rattle.connections.proofs.Whole.{whole_message}
use Rattle.connections.proofs.phases.body_of.Goals as goal

pub returns-else-bytes-heading : goal.returns-else-bytes-heading
returns-else-bytes-heading c =
    let h = c.requires in
    whole_message c.args.bytes.now c.args.heading h
    (omega (arith, h.3.head_len, ap length h.2.0.1, length-append (print_request h.0) h.1))

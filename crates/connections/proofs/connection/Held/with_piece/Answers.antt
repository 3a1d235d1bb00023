use Rattle.std.proofs.Common.{subst, sym}
use Rattle.http_definitions.specs.Streams.{without_line_ends}
use Rattle.connections.specs.Phases.{IsOn}
use Rattle.connections.proofs.Skipped.{held_on}
use Rattle.connections.proofs.connection.Held.with_piece.Goals as goal

pub returns-in-Ok-clause-on : goal.returns-in-Ok-clause-on
returns-in-Ok-clause-on c =
    subst (λ b. IsOn (without_line_ends b) c.args.self.phase) (sym c.in-Ok.ensures.items)
    (held_on c.args.self.buffer.items c.args.piece.now c.args.self.phase c.args.self.held)

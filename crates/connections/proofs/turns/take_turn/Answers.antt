use Rattle.std.proofs.Common.{arith}
use Rattle.connections.proofs.Joined.{takes_none}
use Rattle.connections.proofs.Turned.{IsSkipped, waits_turn, hopeless_turn, took_turn, last_turn, some_turn}
use Rattle.connections.proofs.turns.take_turn.Goals as goal

pub returns-in-Waiting-clause-ok : goal.returns-in-Waiting-clause-ok
returns-in-Waiting-clause-ok g c =
    let e = c.line_ends-skipped.ensures in
    let skipped : IsSkipped c.args.bytes.now c.line_ends-skipped.result = record { within = e.within; rest = e.rest; front = e.front } in
    let found = rw c.behind-front.ensures at c.in-Waiting.ensures in
    waits_turn g.H.Handler.answers c.args.bytes.now c.line_ends-skipped.result c.in-Waiting.reached (g.H.Handler.state c.args.handler.now) _ skipped found.0 found.1

pub returns-in-Err-clause-some : goal.returns-in-Err-clause-some
returns-in-Err-clause-some g c = takes_none g.H.Handler.answers c.args.bytes.now (g.H.Handler.state c.args.handler.now)

pub returns-in-Ok-clause-ok : goal.returns-in-Ok-clause-ok
returns-in-Ok-clause-ok g c =
    let e = c.line_ends-skipped.ensures in
    let skipped : IsSkipped c.args.bytes.now c.line_ends-skipped.result = record { within = e.within; rest = e.rest; front = e.front } in
    let found = rw c.behind-front.ensures at c.in-Hopeless.ensures in
    hopeless_turn g.H.Handler.answers c.args.bytes.now c.line_ends-skipped.result (g.H.Handler.state c.args.handler.now) _ _ skipped found c.in-Ok.ensures.ok

pub returns-in-Err-answer-clause-some : goal.returns-in-Err-answer-clause-some
returns-in-Err-answer-clause-some g c =
    let e = c.line_ends-skipped.ensures in
    let skipped : IsSkipped c.args.bytes.now c.line_ends-skipped.result = record { within = e.within; rest = e.rest; front = e.front } in
    let found = rw c.behind-front.ensures at c.in-Whole.ensures in
    let may = rw c.behind-front.ensures at c.in-Err-answer.ensures.some in
    some_turn g.H.Handler.answers c.args.bytes.now c.line_ends-skipped.result c.in-Whole.heading (g.H.Handler.state c.args.handler.now) (g.H.Handler.state c.answer.new.handler) skipped found may

pub returns-then-heading-clause-ok : goal.returns-then-heading-clause-ok
returns-then-heading-clause-ok g c =
    let e = c.line_ends-skipped.ensures in
    let skipped : IsSkipped c.args.bytes.now c.line_ends-skipped.result = record { within = e.within; rest = e.rest; front = e.front } in
    let found = rw c.behind-front.ensures at c.in-Whole.ensures in
    let replies = rw c.behind-front.ensures at c.in-Ok-answer.ensures.ok in
    last_turn g.H.Handler.answers c.args.bytes.now c.line_ends-skipped.result c.in-Whole.heading _ _ _ _ skipped found c.if-heading.true replies

pub returns-else-heading-clause-ok : goal.returns-else-heading-clause-ok
returns-else-heading-clause-ok g c =
    let e = c.line_ends-skipped.ensures in
    let skipped : IsSkipped c.args.bytes.now c.line_ends-skipped.result = record { within = e.within; rest = e.rest; front = e.front } in
    let found = rw c.behind-front.ensures at c.in-Whole.ensures in
    let replies = rw c.behind-front.ensures at c.in-Ok-answer.ensures.ok in
    took_turn g.H.Handler.answers c.args.bytes.now c.line_ends-skipped.result c.in-Whole.heading _ _ _ _ skipped found c.if-heading.false replies _ (omega arith)

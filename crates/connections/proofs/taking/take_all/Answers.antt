use Rattle.std.proofs.Common.{arith, length-drop}
use Rattle.http_definitions.specs.Connections.{closed}
use Rattle.connections.proofs.Joined.{tells_nothing, joined_took, joined_rest, joined_some, joined_held}
use Rattle.connections.proofs.taking.take_all.Goals as goal

pub loop-start-init : goal.loop-start-init
loop-start-init g c =
    record { within = omega arith; on = c.requires; told = tells_nothing g.H.Handler.answers (g.H.Handler.state c.args.handler.now) _; found = λ s x. x }

pub returns-in-Err-clause-some : goal.returns-in-Err-clause-some
returns-in-Err-clause-some g c =
    joined_some g.H.Handler.answers c.args.bytes.now c.loop-start.start _ _ _ _ _ c.loop-start.invariant.told (rw c.behind.ensures at c.in-Err.ensures.some)

pub loop-start-preserved : goal.loop-start-preserved
loop-start-preserved g c =
    let done = rw (c.in-Ok-Took.field-0-is, c.behind.ensures) at c.in-Ok-Took.ensures.ok in
    record {
      within = omega (arith, done.1, length-drop c.loop-start.start c.args.bytes.now, c.loop-start.invariant.within);
      on = c.new.ensures.searched _;
      told = joined_took g.H.Handler.answers c.args.bytes.now c.loop-start.start c.in-Ok-Took.taken _ _ _ _ _ _ c.loop-start.invariant.told done.2;
      found = λ s x. c.loop-start.invariant.found s (c.take_turn.ensures.found s x);
    }

pub returns-in-Ok-Holds-clause-ok : goal.returns-in-Ok-Holds-clause-ok
returns-in-Ok-Holds-clause-ok g c =
    let done = rw (c.in-Ok-Holds.field-0-is, c.behind.ensures) at c.in-Ok-Holds.ensures.ok in
    joined_held g.H.Handler.answers c.args.bytes.now c.loop-start.start c.in-Ok-Holds.dropped c.in-Ok-Holds.held _ _ _ _ _ _ c.loop-start.invariant.within c.loop-start.invariant.told done

pub returns-in-Ok-Closes-clause-ok : goal.returns-in-Ok-Closes-clause-ok
returns-in-Ok-Closes-clause-ok g c =
    let done = rw (c.in-Ok-Closes.field-0-is, c.behind.ensures) at c.in-Ok-Closes.ensures.ok in
    joined_rest g.H.Handler.answers c.args.bytes.now c.loop-start.start _ _ _ _ _ _ closed c.loop-start.invariant.told done

use Rattle.std.proofs.Common.{[], ◌∙◌, refl, arith, inl, inr}
use Rattle.http_definitions.specs.Connections.{holding}
use Rattle.serving.proofs.Exchanged.{reads_nothing}
use Rattle.serving.proofs.Bounded.{nothing_read, once_more, bounded_by}
use Rattle.serving.proofs.exchanges.exchange.Goals as goal

pub loop-reads-init : goal.loop-reads-init
loop-reads-init g c =
    record { told = ([], c.requires, reads_nothing g.H.Handler.answers _, refl); found = λ clean. clean; others = λ k other. refl; within = omega arith; read = nothing_read _ }

pub loop-reads-preserved : goal.loop-reads-preserved
loop-reads-preserved g c =
    let before = c.loop-reads.invariant in
    let turned = rw c.in-Ok-Goes.field-0-is at c.in-Ok-Goes.ensures.turned in
    let on = turned _ before.told.0 before.told.1 before.told.2 in
    record {
      told = (on.0, on.1, on.2, omega (arith, on.3, before.told.3));
      found = λ clean s x. c.in-Ok-Goes.ensures.found _ before.told.0 before.told.1 before.told.2 (before.found clean) s x;
      others = λ k other. c.in-Ok-Goes.ensures.others k other ∙ before.others k other;
      within = omega (arith, c.loop-reads-test.true);
      read = once_more _ _ _ _ _ (omega arith) before.read c.in-Ok-Goes.ensures.read;
    }

pub returns-in-Ok-Ends-clause-exchanged : goal.returns-in-Ok-Ends-clause-exchanged
returns-in-Ok-Ends-clause-exchanged g c =
    let before = c.loop-reads.invariant in
    let turned = rw c.in-Ok-Ends.field-0-is at c.in-Ok-Ends.ensures.turned in
    turned _ before.told.0 before.told.1 before.told.2

pub returns-in-Err-clause-exchanged : goal.returns-in-Err-clause-exchanged
returns-in-Err-clause-exchanged g c =
    let before = c.loop-reads.invariant in
    inl (c.in-Err.ensures.turned _ before.told.0 before.told.1 before.told.2)

pub returns-clause-exchanged : goal.returns-clause-exchanged
returns-clause-exchanged g c =
    let before = c.loop-reads.invariant in
    inr (refl, (holding before.told.0, before.told.2, omega (arith, before.told.3, before.within, c.loop-reads-test.false)))

pub returns-in-Ok-Ends-clause-bounded : goal.returns-in-Ok-Ends-clause-bounded
returns-in-Ok-Ends-clause-bounded g c =
    let before = c.loop-reads.invariant in
    bounded_by _ _ _ (once_more _ _ _ _ _ (omega arith) before.read c.in-Ok-Ends.ensures.read) (omega (arith, c.loop-reads-test.true))

pub returns-in-Err-clause-bounded : goal.returns-in-Err-clause-bounded
returns-in-Err-clause-bounded g c =
    let before = c.loop-reads.invariant in
    bounded_by _ _ _ (once_more _ _ _ _ _ (omega arith) before.read c.in-Err.ensures.read) (omega (arith, c.loop-reads-test.true))

pub returns-clause-bounded : goal.returns-clause-bounded
returns-clause-bounded g c = bounded_by _ _ _ c.loop-reads.invariant.read c.loop-reads.invariant.within

pub returns-in-Ok-Ends-clause-found : goal.returns-in-Ok-Ends-clause-found
returns-in-Ok-Ends-clause-found g c = λ clean s x.
    let before = c.loop-reads.invariant in
    c.in-Ok-Ends.ensures.found _ before.told.0 before.told.1 before.told.2 (before.found clean) s x

pub returns-in-Err-clause-found : goal.returns-in-Err-clause-found
returns-in-Err-clause-found g c = λ clean s x.
    let before = c.loop-reads.invariant in
    c.in-Err.ensures.found _ before.told.0 before.told.1 before.told.2 (before.found clean) s x

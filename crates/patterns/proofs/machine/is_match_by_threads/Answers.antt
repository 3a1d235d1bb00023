use Rattle.std.proofs.Common.{sym, ap, ◌∙◌, is_some, arith}
use Rattle.patterns.proofs.Searches.{threads_none, threads_here, threads_retry, goes_on_inside}
use Rattle.patterns.proofs.machine.is_match_by_threads.Goals as goal

pub returns-in_default : goal.returns-in_default
returns-in_default c re implements =
    sym (ap is_some (c.loop-from.invariant.2 re implements
    ∙ threads_none c.args.nfa.now re implements c.args.hay.now c.loop-from.at c.in_default.ensures.span))

pub returns-then-is_boundary : goal.returns-then-is_boundary
returns-then-is_boundary c re implements =
    let cut = sym c.is_boundary.ensures ∙ c.if-is_boundary.true in
    sym (ap is_some (c.loop-from.invariant.2 re implements)
    ∙ threads_here c.args.nfa.now re implements c.args.hay.now c.loop-from.at c.in-Some.from _ c.in-Some.ensures.span cut)

pub loop-from-smaller : goal.loop-from-smaller
loop-from-smaller c =
    let below = goes_on_inside c.args.hay.now c.in-Some.from (sym c.is_boundary.ensures ∙ c.if-is_boundary.false) in
    omega (arith, c.in-Some.ensures.within)

pub loop-from-preserved : goal.loop-from-preserved
loop-from-preserved c =
    let inside = sym c.is_boundary.ensures ∙ c.if-is_boundary.false in
    let below = goes_on_inside c.args.hay.now c.in-Some.from inside in (
      omega arith,
      rw c.find.ensures.room c.loop-from.invariant.1,
      λ re implements. c.loop-from.invariant.2 re implements
          ∙ threads_retry c.args.nfa.now re implements c.args.hay.now c.loop-from.at c.in-Some.from _ c.in-Some.ensures.span inside,
    )

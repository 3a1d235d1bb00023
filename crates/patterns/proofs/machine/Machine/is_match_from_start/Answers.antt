use Rattle.std.proofs.Common.{sym, ◌∙◌}
use Rattle.regex_meta.proofs.LeftmostLemmas.{are_bytes}
use Rattle.patterns.proofs.Searches.{none_at_start, some_at_start, by_threads}
use Rattle.patterns.proofs.machine.Machine.is_match_from_start.Goals as goal

pub returns-in-NoMatch-clause-ok : goal.returns-in-NoMatch-clause-ok
returns-in-NoMatch-clause-ok c =
    let small = are_bytes c.args.hay.now c.type_inv.hay in
    rw c.self.view_is at (sym (none_at_start _ _ _ _ c.self.invariant.1 c.args.hay.now small c.if-self.true c.in-NoMatch.ensures.end))

pub returns-in-At-clause-ok : goal.returns-in-At-clause-ok
returns-in-At-clause-ok c =
    let small = are_bytes c.args.hay.now c.type_inv.hay in
    let cut = sym c.is_boundary.ensures ∙ c.if-is_boundary.true in
    rw c.self.view_is at (sym (some_at_start _ _ _ _ c.self.invariant.1 c.args.hay.now small cut c.in-At.ensures.end.0))

pub returns-clause-ok : goal.returns-clause-ok
returns-clause-ok c =
    let small = are_bytes c.args.hay.now c.type_inv.hay in
    rw c.self.view_is at (by_threads _ _ _ _ c.self.invariant.1 c.args.hay.now small _ c.is_match_by_threads.ensures)

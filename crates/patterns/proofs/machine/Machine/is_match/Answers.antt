use Rattle.std.proofs.Common.{sym}
use Rattle.regex_meta.proofs.LeftmostLemmas.{are_bytes}
use Rattle.patterns.proofs.Searches.{none_at_all, some_filled}
use Rattle.patterns.proofs.machine.Machine.is_match.Goals as goal

pub returns-in-NoMatch-clause-ok : goal.returns-in-NoMatch-clause-ok
returns-in-NoMatch-clause-ok c =
    let small = are_bytes c.args.text.now c.type_inv.text in
    let ended = rw c.as_bytes-hay.ensures.value at c.in-NoMatch.ensures.end in
    rw c.self.view_is at (sym (none_at_all _ _ _ _ c.self.invariant.1 c.args.text.now small ended))

pub returns-in-At-clause-ok : goal.returns-in-At-clause-ok
returns-in-At-clause-ok c =
    let small = are_bytes c.args.text.now c.type_inv.text in
    let ended = rw c.as_bytes-hay.ensures.value at c.in-At.ensures.end in
    rw c.self.view_is at (sym (some_filled _ _ _ _ c.self.invariant.1 c.args.text.now small c.if-self.true ended.0))

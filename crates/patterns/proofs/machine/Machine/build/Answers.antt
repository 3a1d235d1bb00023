use Rattle.patterns.proofs.Readings.{text_is_read, text_nests}
use Rattle.patterns.proofs.machine.Machine.build.Goals as goal

pub returns-clause-read : goal.returns-clause-read
returns-clause-read c =
    let spelled = c.in_ok-dfa.ensures.ok in
    rw c.in_ok-text.ensures.ok (text_is_read c.args.text.now spelled.hir spelled.names spelled.reads)

pub returns-clause-nested : goal.returns-clause-nested
returns-clause-nested c =
    let spelled = c.in_ok-dfa.ensures.ok in
    rw c.in_ok-text.ensures.ok (text_nests c.args.text.now spelled.hir spelled.names spelled.reads)

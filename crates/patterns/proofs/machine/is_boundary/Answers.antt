use Rattle.std.proofs.Common.{refl, arith}
use Rattle.std.proofs.lemmas.Bool.Decides.{nat_tests}
use Rattle.regex_hir.specs.Text.{is_boundary}
use Rattle.std.proofs.lemmas.Option.{slice_get_past, slice_get-get_or}
use Rattle.patterns.proofs.machine.is_boundary.Goals as goal

pub returns-then-at-hay : goal.returns-then-at-hay
unfolding is_boundary
returns-then-at-hay c = rw (slice_get_past c.args.hay.now c.args.at c.if-at-hay.true) refl

pub returns : goal.returns
unfolding is_boundary
returns c = rw (slice_get-get_or c.args.hay.now c.args.at 0 c.if-at-hay.false) (grind (arith, nat_tests))

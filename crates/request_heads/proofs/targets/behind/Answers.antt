use Rattle.std.proofs.Common.{sym, ap, ◌∙◌}
use Rattle.std.specs.Prelude.{Some}
use Rattle.request_heads.proofs.TargetRoutes.{stripped_is, unstripped_is}
use Rattle.request_heads.proofs.targets.behind.Goals as goal

pub returns-in-Some : goal.returns-in-Some
returns-in-Some c =
    ap Some c.in-Some.ensures.cases.1 ∙ sym (stripped_is c.args.path.now c.args.target.now c.in-Some.ensures.cases.0)

pub returns-in-None : goal.returns-in-None
returns-in-None c = sym (unstripped_is c.args.path.now c.args.target.now c.in-None.ensures.cases)

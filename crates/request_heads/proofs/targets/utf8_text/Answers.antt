use Rattle.request_heads.proofs.TargetRoutes.{utf8_is, ill_is}
use Rattle.request_heads.proofs.targets.utf8_text.Goals as goal

pub returns-in-Ok : goal.returns-in-Ok
returns-in-Ok c = utf8_is c.args.text.now _ c.in-Ok.ensures.cases.0 c.in-Ok.ensures.cases.1

pub returns-in-Err : goal.returns-in-Err
returns-in-Err c = ill_is c.args.text.now c.in-Err.ensures.cases.0

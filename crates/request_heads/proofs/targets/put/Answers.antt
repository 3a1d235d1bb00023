use Rattle.std.proofs.Common.{sym, ap, ◌∙◌}
use Rattle.std.specs.Cow.{cow_str_bytes}
use Rattle.std.specs.Prelude.{Some, None, option_map}
use Rattle.request_heads.proofs.TargetRoutes.{put_is}
use Rattle.request_heads.proofs.targets.put.Goals as goal

pub returns-in-Some-clause-ok : goal.returns-in-Some-clause-ok
returns-in-Some-clause-ok c = put_is c.args.target.now c.args.body.now (Some (cow_str_bytes c.in-Some.uri)) (ap (option_map cow_str_bytes) (sym c.in-Some.is) ∙ c.in_ok-found.ensures.ok)

pub returns-in-None-clause-ok : goal.returns-in-None-clause-ok
returns-in-None-clause-ok c = put_is c.args.target.now c.args.body.now None (ap (option_map cow_str_bytes) (sym c.in-None.is) ∙ c.in_ok-found.ensures.ok)

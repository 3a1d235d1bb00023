use Rattle.std.proofs.Common.{sym, ap, ◌∙◌, true≢false, refl}
use Rattle.std.specs.Cow.{cow_str_bytes}
use Rattle.std.specs.Prelude.{◌≢◌, Some, None, option_map, codes}
use Rattle.request_heads.proofs.TargetRoutes.{validate_is, batch_is}
use Rattle.request_heads.proofs.targets.post.Goals as goal

pub returns-then-is_batch-clause-ok : goal.returns-then-is_batch-clause-ok
returns-then-is_batch-clause-ok c = batch_is c.args.target.now c.args.body.now (c.if-is_batch.ensures.0 refl)

pub returns-in-Some-clause-ok : goal.returns-in-Some-clause-ok
returns-in-Some-clause-ok c =
    let other : c.args.target.now ≢ codes "/batch" = λ e. true≢false (sym (c.if-is_batch.ensures.1 e)) in
    validate_is c.args.target.now c.args.body.now (Some (cow_str_bytes c.in-Some.uri)) other (ap (option_map cow_str_bytes) (sym c.in-Some.is) ∙ c.in_ok-found.ensures.ok)

pub returns-in-None-clause-ok : goal.returns-in-None-clause-ok
returns-in-None-clause-ok c =
    let other : c.args.target.now ≢ codes "/batch" = λ e. true≢false (sym (c.if-is_batch.ensures.1 e)) in
    validate_is c.args.target.now c.args.body.now None other (ap (option_map cow_str_bytes) (sym c.in-None.is) ∙ c.in_ok-found.ensures.ok)

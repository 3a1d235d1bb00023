use Rattle.std.proofs.Common.{string_bytes, subst}
use Rattle.file_forms.specs.Gathered.{IsNoPlace, LiesAt}
use Rattle.file_forms.proofs.gathering.Gathered.place_of.Goals as goal

pub returns-in-Ok-clause-ok : goal.returns-in-Ok-clause-ok
returns-in-Ok-clause-ok c = subst (λ f. LiesAt f c.args.path.now (string_bytes c.in-Ok.place)) c.as_str.ensures.value c.in-Ok.ensures.ok

pub returns-in-Err-clause-err : goal.returns-in-Err-clause-err
returns-in-Err-clause-err c =
    record { fault = c.in-Err.fault; is = c.refused.ensures; why = λ room. subst (λ f. IsNoPlace f c.args.path.now c.in-Err.fault) c.as_str.ensures.value (c.in-Err.ensures.err room) }

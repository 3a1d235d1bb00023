use Rattle.std.proofs.Common.{◌≡◌, sym, subst, ◌∙◌}
use Rattle.std.specs.Str.{IsUtf8}
use Rattle.percent_encoding.specs.Percent.{percent_decode}
use Rattle.percent_encoding.specs.declared.DecodeError.TheVariants.{OutOfMemory}
use Rattle.request_heads.proofs.TargetRoutes.{utf8_is, ill_is}
use Rattle.request_heads.proofs.targets.decoded.Goals as goal

pub returns-in-Ok-clause-ok : goal.returns-in-Ok-clause-ok
returns-in-Ok-clause-ok c =
    utf8_is (percent_decode c.args.text.now) _ (c.in-Ok.ensures.value ∙ c.percent_decode.ensures.bytes)
    (subst IsUtf8 c.percent_decode.ensures.bytes c.in-Ok.ensures.ok_only_if_utf8)

pub returns-in-Err-Utf8-clause-ok : goal.returns-in-Err-Utf8-clause-ok
returns-in-Err-Utf8-clause-ok c =
    ill_is (percent_decode c.args.text.now) (λ text.
    let memory : c.in-Err-Utf8.field-0 ≡ OutOfMemory = c.in-Err-Utf8.ensures.utf8 (subst IsUtf8 (sym c.percent_decode.ensures.bytes) text) in
    let not_text = c.in-Err-Utf8.field-0-is in
    cc)

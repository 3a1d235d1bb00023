use Rattle.std.proofs.Common.{◌≡◌, refl, sym, ap, subst, ◌∙◌}
use Rattle.std.proofs.lemmas.Str.{is_utf8-from_IsUtf8}
use Rattle.std.specs.Str.{IsUtf8, is_utf8}
use Rattle.percent_encoding.specs.declared.DecodeError.TheVariants.{OutOfMemory}
use Rattle.uri_ref.proofs.Percents.{whole, broken, ill}
use Rattle.uri_ref.proofs.fragments.decoded.Goals as goal

pub returns-then-not-has_whole_escapes-clause-err :
    goal.returns-then-not-has_whole_escapes-clause-err
returns-then-not-has_whole_escapes-clause-err c = λ other. (refl, broken c.args.text.now (sym c.if-not-has_whole_escapes.ensures))

pub returns-in-Ok-clause-ok : goal.returns-in-Ok-clause-ok
returns-in-Ok-clause-ok c =
    whole c.args.text.now _ (sym c.has_whole_escapes.ensures ∙ c.if-not-has_whole_escapes.false) (c.in-Ok.ensures.value ∙ c.percent_decode_str.ensures.bytes)

pub returns-in-Ok-clause-utf8 : goal.returns-in-Ok-clause-utf8
returns-in-Ok-clause-utf8 c = ap is_utf8 c.in-Ok.ensures.value ∙ is_utf8-from_IsUtf8 _ c.in-Ok.ensures.ok_only_if_utf8

pub returns-in-Err-Utf8-clause-err : goal.returns-in-Err-Utf8-clause-err
returns-in-Err-Utf8-clause-err c = λ other. (
  refl,
  ill c.args.text.now (sym c.has_whole_escapes.ensures ∙ c.if-not-has_whole_escapes.false) (λ text.
      let memory : c.in-Err-Utf8.field-0 ≡ OutOfMemory = c.in-Err-Utf8.ensures.utf8 (subst IsUtf8 (sym c.percent_decode_str.ensures.bytes) text) in
      let not_text = c.in-Err-Utf8.field-0-is in
      cc),
)

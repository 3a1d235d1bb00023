use Rattle.std.proofs.Common.{string_bytes}
use Rattle.std.proofs.lemmas.Result.{IfErr-weaker, IfOk-weaker}
use Rattle.file_forms.proofs.Places.{lies, lies_nowhere}
use Rattle.file_forms.proofs.gathering.place_in.Goals as goal

pub returns-clause-ok : goal.returns-clause-ok
returns-clause-ok c =
    IfOk-weaker c.base_form.result _ _
    (λ place base. lies c.args.folder.now c.args.path.now (string_bytes place) _ _ _ _ c.in_ok-path.ensures.path c.as_str.ensures.value c.in_ok-uri.ensures.spells c.as_str-2.ensures.value base)
    c.base_form.ensures.ok

pub returns-clause-err : goal.returns-clause-err
returns-clause-err c =
    IfErr-weaker c.base_form.result _ _
    (λ fault base room. lies_nowhere c.args.folder.now c.args.path.now _ _ _ _ fault c.in_ok-path.ensures.path c.as_str.ensures.value c.in_ok-uri.ensures.spells c.as_str-2.ensures.value (base room))
    c.base_form.ensures.err

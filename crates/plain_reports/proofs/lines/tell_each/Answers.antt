use Rattle.std.proofs.Common.{[], ◌∷◌, ◌++◌, ap, ◌∙◌, string_bytes, arith}
use Rattle.std.proofs.lemmas.List.{length_push}
use Rattle.std.proofs.lemmas.List.Elements.{All-push}
use Rattle.plain_reports.specs.Told.{EndsLine}
use Rattle.plain_reports.proofs.Parts.{with_one_more}
use Rattle.plain_reports.proofs.lines.tell_each.Goals as goal

pub loop-cause-preserved : goal.loop-cause-preserved
loop-cause-preserved g c =
    let i = c.loop-cause.invariant in
    let told = string_bytes c.in_ok-told.told in
    let text = string_bytes c.loop-cause.lines in (
      i.0 ++ told ∷ [],
      omega (arith, i.1, length_push i.0 told),
      All-push EndsLine i.0 told i.2 c.in_ok-told.ensures,
      c.in_ok-push_str.ensures.bytes ∙ ap (λ t. text ++ t) c.as_str.ensures.value ∙ with_one_more i.0 told text i.3,
    )

use Rattle.std.proofs.Common.{◌≡◌, ap₂, ◌∙◌}
use Rattle.std.proofs.lemmas.Result.{IfOk-weaker}
use Rattle.definitions.specs.Resolution.{resolve}
use Rattle.definitions.specs.Uris.{split}
use Rattle.uri_ref.proofs.CutTexts.{text_before}
use Rattle.uri_ref.proofs.opening.opened_uri.Goals as goal

pub returns : goal.returns
returns c =
    let both : resolve c.split.result c.split-2.result ≡ resolve (split c.args.base.now) (split c.args.id.now) = ap₂ resolve c.split.ensures.parts c.split-2.ensures.parts in
    let is : c.parts.result ≡ resolve (split c.args.base.now) (split c.args.id.now) = c.parts.ensures ∙ c.in_ok-opened.ensures ∙ both in
    IfOk-weaker c.recompose.result _ _ (λ uri e. e ∙ text_before c.args.base.now c.args.id.now c.parts.result c.without_fragment.result is c.without_fragment.ensures) c.recompose.ensures

use Rattle.std.proofs.Common.{◌≡◌, IsTrue, is_err, subst, sym, ◌∙◌}
use Rattle.definitions.specs.Resolution.{resolve}
use Rattle.definitions.specs.Uris.{split}
use Rattle.uri_ref.proofs.CutTexts.{fragment_read, text_before}
use Rattle.uri_ref.proofs.absolute_references.named_by.Goals as goal

pub returns-in_ok-uri-in-Some : goal.returns-in_ok-uri-in-Some
returns-in_ok-uri-in-Some c = λ resource reference resolved.
    let is : c.parts-parts.result ≡ resolve (split resource) (split reference) = c.parts-parts.ensures ∙ resolved in
    let read = rw c.in-Some.is at c.in_ok-fragment.ensures in (
      c.in_ok-uri-in-Some.ensures ∙ text_before resource reference c.parts-parts.result c.without_fragment.result is c.without_fragment.ensures,
      sym (fragment_read resource reference c.parts-parts.result _ is c.fragment.ensures) ∙ read,
    )

pub returns-in-None : goal.returns-in-None
returns-in-None c = λ resource reference resolved.
    let is : c.parts-parts.result ≡ resolve (split resource) (split reference) = c.parts-parts.ensures ∙ resolved in
    let read = rw c.in-None.is at c.in_ok-fragment.ensures in
    subst (λ r. IsTrue (is_err r)) (fragment_read resource reference c.parts-parts.result _ is c.fragment.ensures) read

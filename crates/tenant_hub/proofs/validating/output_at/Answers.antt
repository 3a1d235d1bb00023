use Rattle.std.proofs.Common.{Ok, refl, sym, subst, ap, ◌∙◌, string_bytes}
use Rattle.std.proofs.lemmas.Result.{err_from_is_err_and}
use Rattle.json_doc.specs.Docs.{value}
use Rattle.tenant_hub.specs.CachedLinks.{IsLinkOf}
use Rattle.tenant_hub.proofs.ValidationReplies.{unlinked, by_link, replied, refused_as}
use Rattle.tenant_hub.proofs.validating.output_at.Goals as goal

pub returns-in-Some-clause-ok : goal.returns-in-Some-clause-ok
returns-in-Some-clause-ok g c = replied c.output_by.result (
    by_link (g.S.Source.documents c.args.source.now) (Ok (string_bytes c.args.base)) (Ok (value c.args.instance.now)) (string_bytes c.args.base)
    (value c.args.instance.now) c.in-Some.linked.now refl refl
    (subst (λ u. IsLinkOf (g.S.Source.documents c.args.source.now) u c.in-Some.linked.now) c.as_str-2.ensures.value
    (c.in-Some.ensures (g.S.Source.documents c.args.source.now) (c.promote.ensures _ c.requires.links)).0)) c.output_by.ensures.ok

pub returns-in-Some-clause-err : goal.returns-in-Some-clause-err
returns-in-Some-clause-err g c = refused_as c.output_by.result (
    by_link (g.S.Source.documents c.args.source.now) (Ok (string_bytes c.args.base)) (Ok (value c.args.instance.now)) (string_bytes c.args.base)
    (value c.args.instance.now) c.in-Some.linked.now refl refl
    (subst (λ u. IsLinkOf (g.S.Source.documents c.args.source.now) u c.in-Some.linked.now) c.as_str-2.ensures.value
    (c.in-Some.ensures (g.S.Source.documents c.args.source.now) (c.promote.ensures _ c.requires.links)).0)) c.output_by.ensures.err

pub returns-in_err-linked-clause-err : goal.returns-in_err-linked-clause-err
returns-in_err-linked-clause-err g c =
    let p = err_from_is_err_and c.from_residual.result c.from_residual.ensures.1 in
    rw (p.1, p.2) (λ other.
    unlinked (g.S.Source.documents c.args.source.now) (Ok (string_bytes c.args.base)) (Ok (value c.args.instance.now)) c.as_str-3.result.now (value c.args.instance.now) _
    (ap Ok (sym c.as_str-3.ensures.value)) refl (c.in_err-linked.ensures.err other))

pub returns-in_err-output-clause-err : goal.returns-in_err-output-clause-err
returns-in_err-output-clause-err g c =
    let p = err_from_is_err_and c.from_residual-in_err-output.result c.from_residual-in_err-output.ensures.1 in
    rw (p.1, p.2) (λ other.
    by_link (g.S.Source.documents c.args.source.now) (Ok (string_bytes c.args.base)) (Ok (value c.args.instance.now)) c.as_str-3.result.now
    (value c.args.instance.now) c.in_ok-linked.linked (ap Ok (sym c.as_str-3.ensures.value)) refl
    (c.in_ok-linked.ensures.uri, (c.in_ok-linked.ensures.documents, c.in_ok-linked.ensures.ok))
    ∙ c.in_err-output.ensures.err other)

pub returns-clause-ok : goal.returns-clause-ok
returns-clause-ok g c =
    by_link (g.S.Source.documents c.args.source.now) (Ok (string_bytes c.args.base)) (Ok (value c.args.instance.now)) c.as_str-3.result.now
    (value c.args.instance.now) c.in_ok-linked.linked (ap Ok (sym c.as_str-3.ensures.value)) refl
    (c.in_ok-linked.ensures.uri, (c.in_ok-linked.ensures.documents, c.in_ok-linked.ensures.ok))
    ∙ c.in_ok-output.ensures.ok

pub returns-clause-linked : goal.returns-clause-linked
returns-clause-linked g c =
    c.keep.ensures (g.S.Source.documents c.args.source.now) (c.promote.ensures _ c.requires.links) (
      subst (λ u. IsLinkOf (g.S.Source.documents c.args.source.now) u c.in_ok-linked.linked) c.as_str-3.ensures.value
          (c.in_ok-linked.ensures.uri, (c.in_ok-linked.ensures.documents, c.in_ok-linked.ensures.ok)),
      c.requires.base,
    )

use Rattle.std.proofs.Common.{Ok, Err, sym, ap, ap₂, ◌∙◌}
use Rattle.std.proofs.lemmas.Result.{err_from_is_err_and}
use Rattle.definitions.specs.Reach.{reach}
use Rattle.definitions.specs.Registries.{bundled}
use Rattle.definitions.specs.Resolution.{base_form}
use Rattle.faults.specs.View.{fault_view}
use Rattle.json_doc.specs.Docs.{value}
use Rattle.linker.specs.LinkFaults.{link_fault}
use Rattle.linker.specs.LinkedDocuments.{linked_uri, linked_documents}
use Rattle.tenant_hub.proofs.BundleReplies.{bad_base, unnamed, unlinked, bundled_as}
use Rattle.tenant_hub.proofs.bundling.bundle_text.Goals as goal

pub returns-in_err-base-clause-err : goal.returns-in_err-base-clause-err
returns-in_err-base-clause-err g c =
    let p = err_from_is_err_and c.from_residual.result c.from_residual.ensures.1 in
    rw (p.1, p.2) (λ other. bad_base (g.S.Source.documents c.args.source.now) (base_form c.args.uri.now) _ (c.in_err-base.ensures.err other))

pub returns-then-not-branch-clause-err : goal.returns-then-not-branch-clause-err
returns-then-not-branch-clause-err g c = λ other.
    unnamed (g.S.Source.documents c.args.source.now) (base_form c.args.uri.now) c.as_str.result.now c.in_ok-has_document.field-0
    (c.in_ok-base.ensures.ok ∙ ap Ok (sym c.as_str.ensures.value)) c.in_ok-has_document.ensures.ok c.if-not-branch.true

pub returns-in_err-linked-clause-err : goal.returns-in_err-linked-clause-err
returns-in_err-linked-clause-err g c =
    let p = err_from_is_err_and c.from_residual-in_err-linked.result c.from_residual-in_err-linked.ensures.1 in
    let ds = g.S.Source.documents c.args.source.now in
    let b = c.as_str.result.now in
    let same = sym (ap₂ reach c.in_ok-has_document.ensures.same (c.as_str-2.ensures.value ∙ sym c.as_str.ensures.value)) in
    rw (p.1, p.2) (λ other.
    unlinked ds (base_form c.args.uri.now) b c.in_ok-has_document.field-0 _
    (c.in_ok-base.ensures.ok ∙ ap Ok (sym c.as_str.ensures.value)) c.in_ok-has_document.ensures.ok c.if-not-branch.false
    (ap link_fault same ∙ c.in_err-linked.ensures.err other))

pub returns-in_err-whole-clause-err : goal.returns-in_err-whole-clause-err
returns-in_err-whole-clause-err g c =
    let p = err_from_is_err_and c.from_residual-in_err-whole.result c.from_residual-in_err-whole.ensures.1 in
    let ds = g.S.Source.documents c.args.source.now in
    let b = c.as_str.result.now in
    let l = c.in_ok-linked.linked in
    let uri = c.as_str-2.ensures.value ∙ sym c.as_str.ensures.value in
    let same = ap₂ reach c.in_ok-has_document.ensures.same uri in
    rw (p.1, p.2) (λ other.
    bundled_as ds (base_form c.args.uri.now) b c.in_ok-has_document.field-0 (linked_documents l) (linked_uri l) (Err (fault_view _))
    (c.in_ok-base.ensures.ok ∙ ap Ok (sym c.as_str.ensures.value)) c.in_ok-has_document.ensures.ok c.if-not-branch.false
    (ap link_fault (sym same) ∙ c.in_ok-linked.ensures.ok) (c.in_ok-linked.ensures.documents ∙ same) (c.in_ok-linked.ensures.uri ∙ uri)
    (c.in_err-whole.ensures.err other))

pub returns-clause-ok : goal.returns-clause-ok
returns-clause-ok g c =
    let ds = g.S.Source.documents c.args.source.now in
    let b = c.as_str.result.now in
    let l = c.in_ok-linked.linked in
    let uri = c.as_str-2.ensures.value ∙ sym c.as_str.ensures.value in
    let same = ap₂ reach c.in_ok-has_document.ensures.same uri in
    let made =
    bundled_as ds (base_form c.args.uri.now) b c.in_ok-has_document.field-0 (linked_documents l) (linked_uri l) (Ok (value c.in_ok-whole.whole))
    (c.in_ok-base.ensures.ok ∙ ap Ok (sym c.as_str.ensures.value)) c.in_ok-has_document.ensures.ok c.if-not-branch.false
    (ap link_fault (sym same) ∙ c.in_ok-linked.ensures.ok) (c.in_ok-linked.ensures.documents ∙ same) (c.in_ok-linked.ensures.uri ∙ uri)
    c.in_ok-whole.ensures.ok in
    made ∙ ap bundled (sym c.in_ok-write.ensures.text)

use Rattle.std.proofs.Common.{◌≡◌, Ok, string_bytes}
use Rattle.std.proofs.lemmas.Result.{err_from_is_err_and}
use Rattle.definitions.specs.Registries.{body_value}
use Rattle.definitions.specs.Resolution.{base_form}
use Rattle.bundle_laws.proofs.Identified.{base_identifier, form_of_identifier}
use Rattle.json_doc.specs.Docs.{value}
use Rattle.tenant_hub.proofs.ValidationReplies.{bad_base, bad_body, by_link, over_both, replied, refused_as}
use Rattle.tenant_hub.proofs.validating.output_for.Goals as goal

-- ---- by a link that is kept
pub returns-in_err-given-clause-err : goal.returns-in_err-given-clause-err
returns-in_err-given-clause-err g c =
    let ds = g.S.Source.documents c.args.source.now in
    let kept = c.in-Some.ensures ds (c.promote.ensures _ c.requires) in
    let p = err_from_is_err_and c.from_residual.result c.from_residual.ensures.1 in
    rw (p.1, p.2) (λ other. bad_body ds (base_form c.args.uri.now) (body_value c.args.body.now) c.args.uri.now _ kept.1 (c.in_err-given.ensures.err other))

pub returns-in-Some-clause-ok : goal.returns-in-Some-clause-ok
returns-in-Some-clause-ok g c =
    let ds = g.S.Source.documents c.args.source.now in
    let kept = c.in-Some.ensures ds (c.promote.ensures _ c.requires) in
    replied c.output_by.result (
    by_link ds (base_form c.args.uri.now) (body_value c.args.body.now) c.args.uri.now (value c.in_ok-given.given) c.in-Some.linked.now kept.1 c.in_ok-given.ensures.ok kept.0) c.output_by.ensures.ok

pub returns-in-Some-clause-err : goal.returns-in-Some-clause-err
returns-in-Some-clause-err g c =
    let ds = g.S.Source.documents c.args.source.now in
    let kept = c.in-Some.ensures ds (c.promote.ensures _ c.requires) in
    refused_as c.output_by.result (
    by_link ds (base_form c.args.uri.now) (body_value c.args.body.now) c.args.uri.now (value c.in_ok-given.given) c.in-Some.linked.now kept.1 c.in_ok-given.ensures.ok kept.0) c.output_by.ensures.err

-- ---- by the base form
pub returns-in_err-base-clause-err : goal.returns-in_err-base-clause-err
returns-in_err-base-clause-err g c =
    let p = err_from_is_err_and c.from_residual-in_err-base.result c.from_residual-in_err-base.ensures.1 in
    rw (p.1, p.2) (λ other. bad_base (g.S.Source.documents c.args.source.now) (base_form c.args.uri.now) (body_value c.args.body.now) _ (c.in_err-base.ensures.err other))

pub returns-in_err-instance-clause-err : goal.returns-in_err-instance-clause-err
returns-in_err-instance-clause-err g c =
    let p = err_from_is_err_and c.from_residual-in_err-instance.result c.from_residual-in_err-instance.ensures.1 in
    rw (p.1, p.2) (λ other.
    bad_body (g.S.Source.documents c.args.source.now) (base_form c.args.uri.now) (body_value c.args.body.now) (string_bytes c.in_ok-base.base) _
    c.in_ok-base.ensures.ok (c.in_err-instance.ensures.err other))

pub output_at-requires-clause-links : goal.output_at-requires-clause-links
output_at-requires-clause-links g c = c.promote.ensures _ c.requires

pub output_at-requires-clause-base : goal.output_at-requires-clause-base
output_at-requires-clause-base g c =
    form_of_identifier (string_bytes c.in_ok-base.base) (base_identifier (string_bytes c.in_ok-base.base) (record { uri = c.args.uri.now; is = c.in_ok-base.ensures.ok }))

pub returns-clause-ok : goal.returns-clause-ok
returns-clause-ok g c = replied c.output_at.result (
    over_both (g.S.Source.documents c.args.source.now) (base_form c.args.uri.now) (body_value c.args.body.now) (string_bytes c.in_ok-base.base)
    (value c.in_ok-instance.instance) c.in_ok-base.ensures.ok c.in_ok-instance.ensures.ok) c.output_at.ensures.ok

pub returns-clause-err : goal.returns-clause-err
returns-clause-err g c = refused_as c.output_at.result (
    over_both (g.S.Source.documents c.args.source.now) (base_form c.args.uri.now) (body_value c.args.body.now) (string_bytes c.in_ok-base.base)
    (value c.in_ok-instance.instance) c.in_ok-base.ensures.ok c.in_ok-instance.ensures.ok) c.output_at.ensures.err

use Rattle.std.proofs.Common.{◌≡◌, List, Some, Err, map, option_map, sym, ap, ap₂, ◌∙◌}
use Rattle.std.proofs.lemmas.Result.{IfOk-weaker, IfErr-weaker}
use Rattle.definitions.specs.Faults.{bundle_clash}
use Rattle.definitions.specs.Schemas.{Document}
use Rattle.definitions.specs.Documents.{document_of}
use Rattle.definitions.specs.Bundles.{bundle, bundle_of, value_or_too_large}
use Rattle.json_doc.specs.Docs.{value}
use Rattle.linker.specs.LinkedDocuments.{linked_uri, linked_documents}
use Rattle.bundler.specs.Constituents.{named_document, constituent_view}
use Rattle.bundler.proofs.Making.{others_ascend, bundle_clashes, bundle_sized}
use Rattle.bundler.proofs.LinkedDocuments.{linked_ascend, answers_alone}
use Rattle.bundler.proofs.bundling.bundle.Goals as goal

pub returns-in-Some-clash-clause-err : goal.returns-in-Some-clash-clause-err
returns-in-Some-clash-clause-err c = λ other.
    let l = c.args.linked.now in
    let root : Some (value c.in-Some.value.now) ≡ option_map (λ d. d.value) (document_of (linked_documents l) (linked_uri l)) =
    c.in-Some.ensures ∙ ap (λ u. option_map (λ d. d.value) (document_of (linked_documents l) u)) c.asked-uri.ensures in
    bundle_clashes (linked_documents l) (linked_uri l) (value c.in-Some.value.now) (map constituent_view c.deref.result.now) (constituent_view c.in-Some-clash.other.now) (linked_ascend l) root
    (ap (map constituent_view) c.deref.ensures.value ∙ c.in_ok-others.ensures.ok) c.in-Some-clash.ensures
    ∙ ap (λ t. Err (bundle_clash t)) (sym c.in_ok-to_owned-in-Some-clash.ensures.ok)

pub compound-requires : goal.compound-requires
compound-requires c =
    let l = c.args.linked.now in
    others_ascend (linked_documents l) (linked_uri l) (map constituent_view c.deref-in-None-clash.result.now) (linked_ascend l)
    (ap (map constituent_view) c.deref-in-None-clash.ensures.value ∙ c.in_ok-others.ensures.ok)

pub returns-clause-ok : goal.returns-clause-ok
returns-clause-ok c =
    let l = c.args.linked.now in
    let v = value c.in-Some.value.now in
    let root : Some v ≡ option_map (λ d. d.value) (document_of (linked_documents l) (linked_uri l)) =
    c.in-Some.ensures ∙ ap (λ u. option_map (λ d. d.value) (document_of (linked_documents l) u)) c.asked-uri.ensures in
    let os : List Document = map constituent_view c.deref.result.now in
    let others : os ≡ map constituent_view c.deref-in-None-clash.result.now = ap (map constituent_view) (c.deref.ensures.value ∙ sym c.deref-in-None-clash.ensures.value) in
    let whole : bundle (linked_documents l) (linked_uri l) ≡ value_or_too_large (value c.in_ok-compound-in-None-clash.field-0) =
    bundle_sized (linked_documents l) (linked_uri l) v os (linked_ascend l) root (ap (map constituent_view) c.deref.ensures.value ∙ c.in_ok-others.ensures.ok) c.in-None-clash.ensures
    ∙ ap₂ (λ u ds. value_or_too_large (bundle_of (named_document u v) ds)) (sym c.asked-uri.ensures) others
    ∙ ap value_or_too_large (sym c.in_ok-compound-in-None-clash.ensures.ok) in
    IfOk-weaker c.within_limits.result _ _ (λ d h. whole ∙ h) c.within_limits.ensures.ok

pub returns-clause-err : goal.returns-clause-err
returns-clause-err c =
    let l = c.args.linked.now in
    let v = value c.in-Some.value.now in
    let root : Some v ≡ option_map (λ d. d.value) (document_of (linked_documents l) (linked_uri l)) =
    c.in-Some.ensures ∙ ap (λ u. option_map (λ d. d.value) (document_of (linked_documents l) u)) c.asked-uri.ensures in
    let os : List Document = map constituent_view c.deref.result.now in
    let others : os ≡ map constituent_view c.deref-in-None-clash.result.now = ap (map constituent_view) (c.deref.ensures.value ∙ sym c.deref-in-None-clash.ensures.value) in
    let whole : bundle (linked_documents l) (linked_uri l) ≡ value_or_too_large (value c.in_ok-compound-in-None-clash.field-0) =
    bundle_sized (linked_documents l) (linked_uri l) v os (linked_ascend l) root (ap (map constituent_view) c.deref.ensures.value ∙ c.in_ok-others.ensures.ok) c.in-None-clash.ensures
    ∙ ap₂ (λ u ds. value_or_too_large (bundle_of (named_document u v) ds)) (sym c.asked-uri.ensures) others
    ∙ ap value_or_too_large (sym c.in_ok-compound-in-None-clash.ensures.ok) in
    IfErr-weaker c.within_limits.result _ _ (λ f h other. whole ∙ h other) c.within_limits.ensures.err

pub returns-clause-alone : goal.returns-clause-alone
returns-clause-alone c = IfOk-weaker c.within_limits.result _ _ (λ d h. answers_alone c.args.linked.now (value d) h) (returns-clause-ok c)

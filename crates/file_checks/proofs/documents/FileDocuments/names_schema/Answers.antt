use Rattle.std.proofs.Common.{◌≡◌, Some, is_some, find, ap, sym, ◌∙◌, option_map}
use Rattle.definitions.specs.Fragments.{fragment_kind}
use Rattle.definitions.specs.Reach.{holds_resource}
use Rattle.definitions.specs.Targets.{target_in, fragment_of}
use Rattle.definitions.specs.Uris.{without_fragment}
use Rattle.schema_scan.specs.CompiledDocuments.{compiled_schemas, compiled_view}
use Rattle.linker.proofs.Judged.{carried, target_where_held, no_target}
use Rattle.file_checks.specs.FileSources.{file_documents}
use Rattle.file_checks.proofs.Held.{distinct_documents}
use Rattle.file_checks.proofs.documents.FileDocuments.names_schema.Goals as goal

pub returns-in-Some : goal.returns-in-Some
returns-in-Some c =
    let ds = file_documents c.args.self.now in
    let reference = c.args.reference.now in
    let document = c.in-Some.document.value in
    let found : find (holds_resource (without_fragment reference)) ds ≡ Some (compiled_view document) =
    ap (λ u. find (holds_resource u) ds) (sym c.without_fragment-uri.ensures)
    ∙ sym (ap (option_map (λ it. compiled_view it.value)) (sym c.in-Some.is) ∙ c.in_ok-document.ensures.held) in
    carried c.names_in.result _ _
    (ap (λ f. target_in (compiled_schemas c.deref.result.now) c.without_fragment-uri.result.now (fragment_kind f)) (c.fragment.ensures ∙ ap (λ p. p.fragment) c.split.ensures.parts)
    ∙ ap (λ d. target_in (compiled_schemas d) c.without_fragment-uri.result.now (fragment_of reference)) c.deref.ensures
    ∙ ap (λ u. target_in (compiled_schemas document) u (fragment_of reference)) c.without_fragment-uri.ensures
    ∙ sym (target_where_held ds reference (compiled_view document) (distinct_documents c.args.self.now) found))
    c.names_in.ensures

pub returns-in-None : goal.returns-in-None
returns-in-None c =
    let ds = file_documents c.args.self.now in
    sym (ap is_some (no_target ds c.args.reference.now
    (ap (λ u. find (holds_resource u) ds) (sym c.without_fragment-uri.ensures)
    ∙ sym (ap (option_map (λ it. compiled_view it.value)) (sym c.in-None.is) ∙ c.in_ok-document.ensures.held))))

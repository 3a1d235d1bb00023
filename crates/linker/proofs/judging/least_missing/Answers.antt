use Rattle.std.proofs.Common.{◌++◌, flat_map, take, ap, refl, sym, ◌∙◌}
use Rattle.std.proofs.lemmas.List.{take_all}
use Rattle.definitions.specs.Reach.{least}
use Rattle.lemmas.proofs.Lists.{flat_map-push}
use Rattle.schema_scan.specs.CompiledDocuments.{compiled_view}
use Rattle.linker.specs.Missing.{missing_in}
use Rattle.linker.specs.SharedDocuments.{shared_documents}
use Rattle.linker.proofs.Judged.{missing_by_documents}
use Rattle.linker.proofs.Shared.{shared_more}
use Rattle.linker.proofs.judging.least_missing.Goals as goal

pub loop-document-init : goal.loop-document-init
unfolding shared_documents
loop-document-init c = refl

pub loop-document-preserved : goal.loop-document-preserved
loop-document-preserved c =
    let ds = shared_documents c.args.documents.now in
    let before = flat_map (missing_in ds) (shared_documents (take c.loop-document.document-index c.args.documents.now)) in
    c.in_ok-found.ensures before c.loop-document.invariant
    ∙ ap (λ d. least (before ++ missing_in ds (compiled_view d))) c.deref.ensures
    ∙ ap least (sym (ap (flat_map (missing_in ds)) (shared_more c.args.documents.now c.loop-document.document-index c.document-item.result c.loop-document-test.true c.document-item.is)
    ∙ flat_map-push (missing_in ds) (shared_documents (take c.loop-document.document-index c.args.documents.now)) (compiled_view c.document-item.result.value)))

pub returns : goal.returns
returns c =
    let ds = shared_documents c.args.documents.now in
    c.loop-document.invariant
    ∙ ap (λ xs. least (flat_map (missing_in ds) (shared_documents xs))) (take_all c.loop-document.document-index c.args.documents.now c.loop-document-test.false)
    ∙ sym (ap least (missing_by_documents ds ds))

use Rattle.std.proofs.Common.{◌≡◌, ◌++◌, Bor, map, take, true, ap, ap₂, subst, sym, ◌∙◌}
use Rattle.std.specs.List.{list_all}
use Rattle.definitions.specs.Documents.{is_faultless, resources_of, resource_uris_of}
use Rattle.definitions.specs.Values.{Text}
use Rattle.lemmas.proofs.Lists.{flat_map-push}
use Rattle.linker.specs.SharedDocuments.{shared_documents}
use Rattle.schema_scan.specs.CompiledDocuments.{compiled_view}
use Rattle.tenant_documents.proofs.LibraryDocuments.{all_more, none_shared, shared_more}
use Rattle.tenant_documents.proofs.library_uris.resource_uris.Goals as goal

pub loop-document-init : goal.loop-document-init
loop-document-init c = record {
  uris = ap (map (λ (t : Bor Text). t.now)) c.new-uris.ensures.items ∙ ap resource_uris_of (sym none_shared);
  faultless = ap (list_all is_faultless) none_shared;
}

pub loop-document-preserved : goal.loop-document-preserved
loop-document-preserved c =
    let before = shared_documents (take c.loop-document.document-index c.args.documents.now) in
    let here = compiled_view c.document-item.result.value in
    let more = shared_more c.args.documents.now c.loop-document.document-index c.document-item.result c.loop-document-test.true c.document-item.is in
    record {
      uris = c.in_ok-push_texts.ensures
          ∙ ap₂ (λ us vs. us ++ vs) c.loop-document.invariant.uris
          (c.resource_uris_in.ensures.uris ∙ ap (λ d. resources_of (compiled_view d)) c.deref.ensures)
          ∙ sym (flat_map-push resources_of before here)
          ∙ ap resource_uris_of (sym more);
      faultless = ap (list_all is_faultless) more
          ∙ all_more is_faultless before here c.loop-document.invariant.faultless
          (subst (λ d. is_faultless (compiled_view d) ≡ true) c.deref.ensures c.resource_uris_in.ensures.faultless);
    }

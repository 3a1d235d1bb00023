use Rattle.std.proofs.Common.{◌≡◌, ◌++◌, ◌∷◌, [], List, map, take, sym, ap, ap₂, ◌∙◌}
use Rattle.std.proofs.lemmas.List.{map-append, take_all}
use Rattle.std.specs.Global.{Global}
use Rattle.std.specs.declared.rc.Rc.{Rc}
use Rattle.definitions.specs.Documents.{others_of}
use Rattle.json_doc.specs.Docs.{value}
use Rattle.linker.specs.LinkedDocuments.{linked_uri}
use Rattle.linker.specs.SharedDocuments.{shared_documents}
use Rattle.linker.proofs.Shared.{shared_more, shared_none}
use Rattle.schema_scan.specs.CompiledDocuments.{compiled_value, compiled_view}
use Rattle.schema_scan.specs.declared.compiled.Compiled.{Compiled}
use Rattle.bundler.specs.Constituents.{bare_document, named_document, constituent_view}
use Rattle.bundler.proofs.Others.{others_kept, others_left, is_another, is_asked}
use Rattle.bundler.proofs.bundling.others_among.Goals as goal
use Rattle.bundler.proofs.bundling.others_among.Goals.{then-ne+in_ok-push, else-ne}

pub loop-document-init : goal.loop-document-init
loop-document-init c = ap (map constituent_view) c.in_ok-others.ensures.items ∙ ap (λ ds. map bare_document (others_of (linked_uri c.args.linked.now) ds)) (sym shared_none)

pub loop-document-preserved : goal.loop-document-preserved
loop-document-preserved c =
    let u = linked_uri c.args.linked.now in
    let items : List (Rc Compiled Global) = c.documents-document-items.result.now in
    let i = c.loop-document.document-index in
    let ds = shared_documents (take i items) in
    let d = compiled_view c.document-item.result.value in
    let t = c.canonical-uri.result.now in
    let own : t ≡ d.canonical = c.canonical-uri.ensures ∙ ap (λ x. (compiled_view x).canonical) c.deref.ensures in
    let more = shared_more items i c.document-item.result c.loop-document-test.true c.document-item.is in
    elim c.if-ne.branch [
      | then-ne+in_ok-push w ↦
          let other = is_another t c.asked.result.now d.canonical u w.if-ne.ensures own c.asked.ensures in
          let same : value w.document-value.result.now ≡ d.value = w.document-value.ensures.value ∙ ap compiled_value w.deref-then-ne.ensures in
          ap (λ v. map constituent_view v.items) w.others-is
          ∙ ap (map constituent_view) w.in_ok-push.ensures.items
          ∙ map-append constituent_view c.loop-document.others.items _
          ∙ ap₂ (λ xs x. xs ++ x ∷ []) c.loop-document.invariant (ap₂ named_document own same)
          ∙ sym (ap (λ es. map bare_document (others_of u es)) more ∙ others_kept u ds d other)
      | else-ne w ↦
          ap (λ v. map constituent_view v.items) w.others-is
          ∙ c.loop-document.invariant
          ∙ sym (ap (λ es. map bare_document (others_of u es)) more ∙ others_left u ds d (is_asked t c.asked.result.now d.canonical u w.if-ne.ensures own c.asked.ensures))
    ]

pub returns-clause-ok : goal.returns-clause-ok
returns-clause-ok c =
    let u = linked_uri c.args.linked.now in
    let items : List (Rc Compiled Global) = c.documents-document-items.result.now in
    c.loop-document.invariant
    ∙ ap (λ xs. map bare_document (others_of u (shared_documents xs))) (take_all c.loop-document.document-index items c.loop-document-test.false)
    ∙ ap (λ ds. map bare_document (others_of u ds)) c.documents-document-items.ensures

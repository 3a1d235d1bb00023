use Rattle.std.proofs.Common.{map, sym, ap, ◌∙◌, arith}
use Rattle.std.proofs.lemmas.List.{take_all}
use Rattle.std.proofs.lemmas.Simd.{map-map}
use Rattle.std.specs.Global.{Global}
use Rattle.std.specs.declared.rc.Rc.{Rc}
use Rattle.stored_documents.specs.SharedStored.{stored_documents}
use Rattle.stored_documents.specs.StoredDocuments.{stored_view}
use Rattle.stored_documents.specs.declared.stored.Stored.{Stored}
use Rattle.tenant_documents.specs.Batches.{stored_reply}
use Rattle.tenant_documents.specs.Registries.{registry_view}
use Rattle.tenant_documents.proofs.registry.Registry.stored_replies.Goals as goal

pub returns-clause-ok : goal.returns-clause-ok
unfolding stored_documents
returns-clause-ok c =
    let g = registry_view c.args.self.now in
    let ss = c.args.documents.now in
    c.loop-document.invariant
    ∙ ap (map (λ (s : Rc Stored Global). stored_reply g (stored_view s.value))) (take_all c.loop-document.document-index ss (omega arith))
    ∙ sym (map-map (stored_reply g) (λ (s : Rc Stored Global). stored_view s.value) ss)

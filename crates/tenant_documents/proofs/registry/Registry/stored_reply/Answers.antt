use Rattle.std.proofs.Common.{is_some, sym, ap, ap₂, ◌∙◌, Bor}
use Rattle.std.specs.Global.{Global}
use Rattle.std.specs.declared.rc.Rc.{Rc}
use Rattle.definitions.specs.Documents.{document_of}
use Rattle.lemmas.proofs.Options.{is_some-map}
use Rattle.stored_documents.specs.DocumentLists.{documents_in}
use Rattle.stored_documents.specs.StoredDocuments.{stored_view}
use Rattle.stored_documents.specs.declared.stored.Stored.{Stored}
use Rattle.tenant_documents.specs.Registries.{registry_view}
use Rattle.tenant_documents.proofs.registry.Registry.stored_reply.Goals as goal

pub returns-clause-ok : goal.returns-clause-ok
unfolding registry_view
returns-clause-ok c =
    let ds = documents_in c.args.self.now.documents in
    ap₂ (λ t b. (t, b)) (c.in_ok-to_owned.ensures.ok ∙ c.canonical-canonical.ensures)
    (c.is_some.ensures
    ∙ sym (is_some-map (λ (s : Bor (Rc Stored Global)). stored_view s.now.value) c.find.result)
    ∙ ap is_some c.find.ensures
    ∙ ap (λ u. is_some (document_of ds u)) c.canonical-canonical.ensures)

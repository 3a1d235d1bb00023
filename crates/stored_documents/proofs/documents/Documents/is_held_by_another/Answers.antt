use Rattle.std.proofs.Common.{not, ap, sym, ◌∙◌}
use Rattle.definitions.specs.Values.{same_text}
use Rattle.stored_documents.specs.DocumentLists.{documents_in}
use Rattle.stored_documents.specs.StoredDocuments.{stored_view}
use Rattle.stored_documents.specs.KeptDocuments.{kept_documents}
use Rattle.stored_documents.proofs.TakenResources.{held_by_another, held_by_none}
use Rattle.stored_documents.proofs.documents.Documents.is_held_by_another.Goals as goal

pub returns-in-Some : goal.returns-in-Some
returns-in-Some c =
    c.ne.ensures
    ∙ ap (λ t. not (same_text c.args.canonical.now t)) (c.canonical.ensures ∙ ap (λ s. (stored_view s).canonical) c.deref.ensures)
    ∙ sym (held_by_another c.args.canonical.now c.args.uri.now (documents_in c.args.self.now) (stored_view c.in-Some.document.now.value)
    (kept_documents c.args.self.now).distinct (sym c.in-Some.ensures))

pub returns-in-None : goal.returns-in-None
returns-in-None c = sym (held_by_none c.args.canonical.now c.args.uri.now (documents_in c.args.self.now) (sym c.in-None.ensures))

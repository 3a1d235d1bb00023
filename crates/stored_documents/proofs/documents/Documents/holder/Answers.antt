use Rattle.std.proofs.Common.{Some, option_map, ap, sym, ◌∙◌}
use Rattle.std.specs.Global.{Global}
use Rattle.std.specs.declared.rc.Rc.{Rc}
use Rattle.stored_documents.specs.Claims.{claim_of}
use Rattle.stored_documents.specs.DocumentLists.{documents_in}
use Rattle.stored_documents.specs.OrderedDocuments.{ordered_documents}
use Rattle.stored_documents.specs.KeptDocuments.{kept_documents}
use Rattle.stored_documents.specs.StoredDocuments.{stored_view}
use Rattle.stored_documents.specs.declared.stored.Stored.{Stored}
use Rattle.stored_documents.proofs.ClaimedDocuments.{claimed_holder, unclaimed}
use Rattle.stored_documents.proofs.documents.Documents.holder.Goals as goal

pub returns-in-Some : goal.returns-in-Some
unfolding documents_in claim_of
returns-in-Some c =
    c.find_with.ensures
    ∙ claimed_holder c.args.self.now.claims (ordered_documents c.args.self.now.ordered) c.args.uri.now c.canonical.result.now (kept_documents c.args.self.now) c.args.self.now.claimed
    (ap (option_map (λ (s : Rc Stored Global). (stored_view s.value).canonical)) (sym c.in-Some.ensures.value)
    ∙ ap Some (sym (c.canonical.ensures ∙ ap (λ s. (stored_view s).canonical) c.deref.ensures)))

pub returns-in-None : goal.returns-in-None
unfolding documents_in claim_of
returns-in-None c =
    sym (unclaimed c.args.self.now.claims (ordered_documents c.args.self.now.ordered) c.args.uri.now c.args.self.now.claimed
    (ap (option_map (λ (s : Rc Stored Global). (stored_view s.value).canonical)) (sym c.in-None.ensures.value)))

use Rattle.std.proofs.Common.{[], is_some, option_map, refl, ap, sym, ◌∙◌}
use Rattle.std.specs.Global.{Global}
use Rattle.std.specs.declared.rc.Rc.{Rc}
use Rattle.definitions.specs.Documents.{resources_of}
use Rattle.stored_documents.specs.DocumentLists.{documents_in}
use Rattle.stored_documents.specs.OrderedDocuments.{ordered_documents}
use Rattle.stored_documents.specs.KeptDocuments.{kept_documents}
use Rattle.stored_documents.specs.StoredDocuments.{stored_view}
use Rattle.stored_documents.specs.declared.stored.Stored.{Stored}
use Rattle.stored_documents.proofs.ClaimedDocuments.{others_claimed}
use Rattle.stored_documents.proofs.FreshClaims.{is_gone, none_gone, released_none, taken_fresh}
use Rattle.stored_documents.proofs.documents.Documents.remove.Goals as goal

pub invariant_of-self : goal.invariant_of-self
invariant_of-self c = record {
  claimed = others_claimed c.args.self.now.claims c.args.canonical.now (ordered_documents c.args.self.now.ordered) (ordered_documents c.remove.new.self) c.remove.ensures.others c.args.self.now.claimed;
}

pub returns-in-Some-clause-others : goal.returns-in-Some-clause-others
unfolding documents_in
returns-in-Some-clause-others c = c.release_document.ensures.same ∙ c.remove.ensures.others

pub returns-in-Some-clause-removed : goal.returns-in-Some-clause-removed
unfolding documents_in
returns-in-Some-clause-removed c = sym (ap (λ o. is_some (option_map (λ (s : Rc Stored Global). stored_view s.value) o)) c.in-Some.is) ∙ ap is_some c.remove.ensures.removed

pub returns-in-None-clause-others : goal.returns-in-None-clause-others
unfolding documents_in
returns-in-None-clause-others c = c.remove.ensures.others

pub returns-in-None-clause-removed : goal.returns-in-None-clause-removed
unfolding documents_in
returns-in-None-clause-removed c = sym (ap (λ o. is_some (option_map (λ (s : Rc Stored Global). stored_view s.value) o)) c.in-None.is) ∙ ap is_some c.remove.ensures.removed

pub returns-in-Some-clause-fresh : goal.returns-in-Some-clause-fresh
unfolding documents_in
returns-in-Some-clause-fresh c =
    let old = c.args.self.now in
    taken_fresh old _ c.release_document.new.self c.args.canonical.now (resources_of (stored_view c.deref.result.now)) c.remove.ensures.others refl
    (is_gone (documents_in old) c.args.canonical.now c.remove.result c.in-Some.removed c.deref.result.now (kept_documents old) c.remove.ensures.removed c.in-Some.is c.deref.ensures)
    c.release_document.ensures.released

pub returns-in-None-clause-fresh : goal.returns-in-None-clause-fresh
unfolding documents_in
returns-in-None-clause-fresh c =
    let old = c.args.self.now in
    taken_fresh old _ _ c.args.canonical.now [] c.remove.ensures.others refl
    (λ x k named u own. absurd (none_gone (documents_in old) c.args.canonical.now c.remove.result (kept_documents old) c.remove.ensures.removed c.in-None.is x k named))
    (released_none _)

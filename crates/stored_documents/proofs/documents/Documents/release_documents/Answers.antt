use Rattle.std.proofs.Common.{refl, subst, ◌∙◌}
use Rattle.std.proofs.lemmas.List.{take_all}
use Rattle.definitions.specs.Documents.{resource_uris_of}
use Rattle.stored_documents.specs.SharedStored.{stored_documents}
use Rattle.stored_documents.specs.StaleClaims.{Releases}
use Rattle.stored_documents.proofs.FreshClaims.{released_none, released_documents_next}
use Rattle.stored_documents.proofs.documents.Documents.release_documents.Goals as goal

pub loop-document-init : goal.loop-document-init
unfolding stored_documents
loop-document-init c = record { same = refl; released = released_none c.args.self.now }

pub loop-document-preserved : goal.loop-document-preserved
loop-document-preserved c =
    let l = c.loop-document in
    record {
      same = c.release_document.ensures.same ∙ l.invariant.same;
      released = released_documents_next c.args.self.now l.self c.release_document.new.self c.args.documents.now l.document-index c.document-item.result c.deref.result.now
          c.loop-document-test.true c.document-item.is c.deref.ensures l.invariant.released c.release_document.ensures.released;
    }

pub returns-clause-released : goal.returns-clause-released
returns-clause-released c =
    subst (λ ss. Releases c.args.self.now (resource_uris_of (stored_documents ss)) c.loop-document.self) (take_all c.loop-document.document-index c.args.documents.now c.loop-document-test.false)
    c.loop-document.invariant.released

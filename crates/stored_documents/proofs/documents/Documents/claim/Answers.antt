use Rattle.std.proofs.Common.{refl}
use Rattle.stored_documents.specs.Claims.{claimed_uris}
use Rattle.stored_documents.specs.DocumentLists.{documents_in}
use Rattle.stored_documents.specs.OrderedDocuments.{ordered_documents}
use Rattle.stored_documents.proofs.ClaimedDocuments.{stay_claimed}
use Rattle.stored_documents.proofs.FreshClaims.{given_up}
use Rattle.stored_documents.proofs.documents.Documents.claim.Goals as goal

pub invariant_of-self : goal.invariant_of-self
unfolding documents_in
invariant_of-self c = record {
  claimed = stay_claimed c.args.self.now.claims c.claim_unclaimed.new.claims (ordered_documents c.args.self.now.ordered) c.args.self.now.claimed c.claim_unclaimed.ensures.kept;
}

pub returns-in-Ok-clause-same : goal.returns-in-Ok-clause-same
unfolding documents_in
returns-in-Ok-clause-same c = refl

pub returns-in-Err-clause-same : goal.returns-in-Err-clause-same
unfolding documents_in
returns-in-Err-clause-same c = c.release_new_claims.ensures.same

pub returns-in-Err-clause-fresh : goal.returns-in-Err-clause-fresh
unfolding documents_in
returns-in-Err-clause-fresh c = given_up c.args.self.now _ c.release_new_claims.new.self (claimed_uris c.args.new_claims.now) refl c.claim_unclaimed.ensures.only c.release_new_claims.ensures.released

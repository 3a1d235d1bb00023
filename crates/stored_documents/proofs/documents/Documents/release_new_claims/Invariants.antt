use Rattle.std.proofs.Common.{◌≡◌, take}
use Rattle.stored_documents.specs.Claims.{claimed_uris}
use Rattle.stored_documents.specs.DocumentLists.{documents_in}
use Rattle.stored_documents.specs.StaleClaims.{Releases}
use Rattle.stored_documents.proofs.documents.Documents.release_new_claims.Given as goal

abbrev pub invariant-loop-claim : goal.invariant-loop-claim
invariant-loop-claim l = record {
  same : documents_in l.self ≡ documents_in l.initial.self;
  released : Releases l.initial.self (claimed_uris (take l.claim-index l.new_claims)) l.self;
}

use Rattle.std.proofs.Common.{◌≡◌, true, Some, Contains, is_some, take}
use Rattle.definitions.specs.Values.{Text}
use Rattle.stored_documents.specs.Claims.{claim_of, claimed_uris, claims_in, ClaimsOnly}
use Rattle.stored_documents.proofs.claims.claim_unclaimed.Given as goal

abbrev pub invariant-loop-claim : goal.invariant-loop-claim
invariant-loop-claim l = record {
  kept : (uri c : Text) → claim_of l.initial.claims uri ≡ Some c → claim_of l.claims uri ≡ Some c;
  so_far : (uri c : Text) → Contains (claims_in (take l.claim-index l.new_claims)) (uri, c) → is_some (claim_of l.claims uri) ≡ true;
  only : ClaimsOnly l.initial.claims (claimed_uris (take l.claim-index l.new_claims)) l.claims;
}

use Rattle.std.proofs.Common.{◌≡◌, ◌++◌, length, option_map}
use Rattle.std.specs.Vec.Iter.{into_iter_items, into_iter_len}
use Rattle.definitions.specs.Values.{Text}
use Rattle.stored_documents.specs.Claims.{claim_of, claims_in, last_claim}
use Rattle.stored_documents.proofs.claims.make_claims.Given as goal

abbrev pub invariant-loop-claim : goal.invariant-loop-claim
invariant-loop-claim l = record {
  all : l.yielded ++ into_iter_items l.claim-iterator ≡ into_iter_items l.initial.claim-iterator;
  left : into_iter_len l.claim-iterator ≡ length (into_iter_items l.claim-iterator);
  so_far : (uri : Text) → claim_of l.claims uri ≡ option_map (last_claim uri (claims_in l.yielded)) (claim_of l.initial.claims uri);
}

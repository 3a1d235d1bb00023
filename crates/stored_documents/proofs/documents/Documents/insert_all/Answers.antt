use Rattle.std.proofs.Common.{◌^◌, ◌<◌, Contains, ap, sym, subst, ◌∙◌}
use Rattle.definitions.specs.Batches.{taken_by}
use Rattle.definitions.specs.Documents.{bytes_of, documents_with_all, resources_of, resource_uris_of}
use Rattle.definition_laws.proofs.Repeats.{in_flat_map}
use Rattle.definition_laws.proofs.AcceptedBatches.{unrepeated}
use Rattle.stored_documents.specs.Claims.{claimed_uris, claims_in, claims_of, last_claim, ClaimsOnly}
use Rattle.stored_documents.specs.DocumentLists.{documents_in}
use Rattle.stored_documents.specs.KeptDocuments.{kept_ordered}
use Rattle.stored_documents.specs.OrderedDocuments.{ordered_documents}
use Rattle.stored_documents.specs.SharedStored.{stored_documents}
use Rattle.stored_documents.proofs.ClaimMaps.{only_made}
use Rattle.stored_documents.proofs.ClaimedDocuments.{claimed_after}
use Rattle.stored_documents.proofs.FreshClaims.{given_up, own_uris, put_fresh, stays}
use Rattle.stored_documents.proofs.documents.Documents.insert_all.Goals as goal

pub insert_all-requires-clause-free : goal.insert_all-requires-clause-free
unfolding documents_in
insert_all-requires-clause-free c =
    let es = stored_documents c.args.documents.items in
    ap (λ ds. taken_by (documents_with_all es ds) es) c.claim.ensures.same ∙ c.requires.free

pub insert_all-requires-clause-fits : goal.insert_all-requires-clause-fits
unfolding documents_in
insert_all-requires-clause-fits c =
    subst (λ ds. bytes_of (documents_with_all (stored_documents c.args.documents.items) ds) < 2 ^ 64) (sym c.claim.ensures.same) c.requires.fits

pub invariant_of-self : goal.invariant_of-self
unfolding documents_in
invariant_of-self c =
    let es = stored_documents c.args.documents.items in
    record {
      claimed = claimed_after c.claim.new.self.claims c.make_claims.new.claims es (ordered_documents c.claim.new.self.ordered) (ordered_documents c.insert_all.new.self)
          (claims_in c.in_ok-new_claims.new_claims.items)
          (c.in_ok-new_claims.ensures ∙ ap (λ ss. claims_of (stored_documents ss)) c.deref-2.ensures.value)
          c.in-Ok.ensures.placed
          (unrepeated es c.requires.once)
          (kept_ordered c.insert_all.new.self).distinct
          c.claim.new.self.claimed
          (λ u t k. c.in_ok-claim.ensures.claimed u t (subst (λ ps. Contains (claims_in ps) (u, t)) (sym c.deref-3.ensures.value) k))
          c.make_claims.ensures;
    }

pub returns-in-Ok-clause-placed : goal.returns-in-Ok-clause-placed
unfolding documents_in
returns-in-Ok-clause-placed c =
    c.release_documents.ensures.same ∙ c.in-Ok.ensures.placed ∙ ap (documents_with_all (stored_documents c.args.documents.items)) c.claim.ensures.same

pub returns-clause-kept : goal.returns-clause-kept
unfolding documents_in
returns-clause-kept c = c.release_new_claims.ensures.same ∙ c.in-Err.ensures.kept ∙ c.claim.ensures.same

pub returns-in_err-replaced-clause-fresh : goal.returns-in_err-replaced-clause-fresh
returns-in_err-replaced-clause-fresh c = stays c.args.self.now

pub returns-in_err-new_claims-clause-fresh : goal.returns-in_err-new_claims-clause-fresh
returns-in_err-new_claims-clause-fresh c = stays c.args.self.now

pub returns-in-Ok-clause-fresh : goal.returns-in-Ok-clause-fresh
unfolding documents_in
returns-in-Ok-clause-fresh c =
    let old = c.args.self.now in
    let es = stored_documents c.args.documents.items in
    let new_claims = c.in_ok-new_claims.new_claims.items in
    let gone = stored_documents c.deref-in-Ok.result.now in
    put_fresh old _ c.release_documents.new.self es (claimed_uris new_claims) (resource_uris_of gone)
    (c.in-Ok.ensures.placed ∙ ap (documents_with_all es) c.claim.ensures.same) (unrepeated es c.requires.once)
    (only_made c.claim.new.self.claims c.make_claims.new.claims (λ u. last_claim u (claims_in new_claims)) (claimed_uris new_claims) c.make_claims.ensures old.claims
    (subst (λ ps. ClaimsOnly old.claims (claimed_uris ps) c.claim.new.self.claims) c.deref-3.ensures.value c.in_ok-claim.ensures.only))
    (own_uris new_claims es (c.in_ok-new_claims.ensures ∙ ap (λ ss. claims_of (stored_documents ss)) c.deref-2.ensures.value))
    (λ x e k i same u own. in_flat_map resources_of x u gone
    (subst (λ ss. Contains (stored_documents ss) x) (sym c.deref-in-Ok.ensures.value)
    (c.in_ok-replaced.ensures x e k (subst (λ ss. Contains (stored_documents ss) e) (sym c.deref.ensures.value) i) same)) own)
    c.release_documents.ensures.released

pub returns-clause-fresh : goal.returns-clause-fresh
unfolding documents_in
returns-clause-fresh c =
    given_up c.args.self.now _ c.release_new_claims.new.self (claimed_uris c.deref-in-Err.result.now) (c.in-Err.ensures.kept ∙ c.claim.ensures.same)
    (subst (λ ps. ClaimsOnly c.args.self.now.claims (claimed_uris ps) c.claim.new.self.claims) (c.deref-3.ensures.value ∙ sym c.deref-in-Err.ensures.value) c.in_ok-claim.ensures.only)
    c.release_new_claims.ensures.released

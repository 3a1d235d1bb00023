use Rattle.std.proofs.Common.{◌≡◌, ◌^◌, ◌<◌, [], ◌∷◌, inl, inr, Contains, is_some, option_map, ap, refl, sym, subst, ◌∙◌}
use Rattle.std.specs.Global.{Global}
use Rattle.std.specs.declared.rc.Rc.{Rc}
use Rattle.definitions.specs.Documents.{bytes_of, document_of, documents_with, resources_of, taken_uri}
use Rattle.definitions.specs.Schemas.{Document}
use Rattle.definition_laws.proofs.Membership.{nothing_in, first_or_later}
use Rattle.stored_documents.specs.Claims.{claimed_uris, claims_in, last_claim, ClaimsOnly}
use Rattle.stored_documents.specs.DocumentLists.{documents_in}
use Rattle.stored_documents.specs.KeptDocuments.{kept_documents, kept_ordered}
use Rattle.stored_documents.specs.OrderedDocuments.{ordered_documents}
use Rattle.stored_documents.specs.StoredDocuments.{stored_view}
use Rattle.stored_documents.specs.declared.stored.Stored.{Stored}
use Rattle.stored_documents.proofs.ClaimMaps.{only_made}
use Rattle.stored_documents.proofs.ClaimedDocuments.{claimed_after}
use Rattle.stored_documents.proofs.FreshClaims.{given_up, is_gone, none_gone, own_uris, put_fresh, released_none, stays}
use Rattle.stored_documents.proofs.MadeClaims.{claims_made}
use Rattle.stored_documents.proofs.documents.Documents.insert.Goals as goal

pub insert-requires-clause-free : goal.insert-requires-clause-free
unfolding documents_in
insert-requires-clause-free c = ap (λ ds. taken_uri ds (stored_view c.args.document.value)) c.claim.ensures.same ∙ c.requires.free

pub insert-requires-clause-fits : goal.insert-requires-clause-fits
unfolding documents_in
insert-requires-clause-fits c = subst (λ ds. bytes_of (documents_with (stored_view c.args.document.value) ds) < 2 ^ 64) (sym c.claim.ensures.same) c.requires.fits

pub invariant_of-self : goal.invariant_of-self
unfolding documents_in
invariant_of-self c =
    let d = stored_view c.args.document.value in
    let new_claims = c.push_claims.new.new_claims.items in
    record {
      claimed = claimed_after c.claim.new.self.claims c.make_claims.new.claims (d ∷ []) (ordered_documents c.claim.new.self.ordered) (ordered_documents c.insert.new.self) (claims_in new_claims)
          (claims_made c.new-new_claims.result.items new_claims d c.new-new_claims.ensures.items c.in_ok-push_claims.ensures)
          c.in-Ok.ensures.placed
          refl
          (kept_ordered c.insert.new.self).distinct
          c.claim.new.self.claimed
          (λ u t k. c.in_ok-claim.ensures.claimed u t (subst (λ ps. Contains (claims_in ps) (u, t)) (sym c.deref.ensures.value) k))
          c.make_claims.ensures;
    }

pub returns-in-Some-clause-placed : goal.returns-in-Some-clause-placed
unfolding documents_in
returns-in-Some-clause-placed c =
    c.release_document.ensures.same ∙ c.in-Ok.ensures.placed ∙ ap (documents_with (stored_view c.args.document.value)) c.claim.ensures.same

pub returns-in-Some-clause-replaced : goal.returns-in-Some-clause-replaced
unfolding documents_in
returns-in-Some-clause-replaced c =
    sym (ap (λ o. is_some (option_map (λ (r : Rc Stored Global). stored_view r.value) o)) c.in-Some.is) ∙ ap is_some c.in-Ok.ensures.replaced ∙ ap (λ ds. is_some (document_of ds (stored_view c.args.document.value).canonical)) c.claim.ensures.same

pub returns-in-None-clause-placed : goal.returns-in-None-clause-placed
unfolding documents_in
returns-in-None-clause-placed c = c.in-Ok.ensures.placed ∙ ap (documents_with (stored_view c.args.document.value)) c.claim.ensures.same

pub returns-in-None-clause-replaced : goal.returns-in-None-clause-replaced
unfolding documents_in
returns-in-None-clause-replaced c =
    sym (ap (λ o. is_some (option_map (λ (r : Rc Stored Global). stored_view r.value) o)) c.in-None.is) ∙ ap is_some c.in-Ok.ensures.replaced ∙ ap (λ ds. is_some (document_of ds (stored_view c.args.document.value).canonical)) c.claim.ensures.same

pub returns-in-Err-clause-kept : goal.returns-in-Err-clause-kept
unfolding documents_in
returns-in-Err-clause-kept c = c.release_new_claims.ensures.same ∙ c.in-Err.ensures.kept ∙ c.claim.ensures.same

only_one : (d e : Document) → Contains (d ∷ []) e → d ≡ e
only_one d e k = elim (first_or_later d e [] k) [
  | inl same ↦ same
  | inr later ↦ absurd (nothing_in e later)
]

pub returns-in_err-push_claims-clause-fresh : goal.returns-in_err-push_claims-clause-fresh
returns-in_err-push_claims-clause-fresh c = stays c.args.self.now

pub returns-in-Some-clause-fresh : goal.returns-in-Some-clause-fresh
unfolding documents_in
returns-in-Some-clause-fresh c =
    let old = c.args.self.now in
    let d = stored_view c.args.document.value in
    let new_claims = c.push_claims.new.new_claims.items in
    put_fresh old _ c.release_document.new.self (d ∷ []) (claimed_uris new_claims) (resources_of (stored_view c.deref-in-Some.result.now))
    (c.in-Ok.ensures.placed ∙ ap (documents_with d) c.claim.ensures.same) refl
    (only_made c.claim.new.self.claims c.make_claims.new.claims (λ u. last_claim u (claims_in new_claims)) (claimed_uris new_claims) c.make_claims.ensures old.claims
    (subst (λ ps. ClaimsOnly old.claims (claimed_uris ps) c.claim.new.self.claims) c.deref.ensures.value c.in_ok-claim.ensures.only))
    (own_uris new_claims (d ∷ []) (claims_made c.new-new_claims.result.items new_claims d c.new-new_claims.ensures.items c.in_ok-push_claims.ensures))
    (λ x e k i same u own. is_gone (documents_in old) d.canonical c.in-Ok.replaced c.in-Some.replaced c.deref-in-Some.result.now (kept_documents old)
    (c.in-Ok.ensures.replaced ∙ ap (λ ds. document_of ds d.canonical) c.claim.ensures.same) c.in-Some.is c.deref-in-Some.ensures
    x k (ap (λ (y : Document). y.canonical) (only_one d e i) ∙ same) u own)
    c.release_document.ensures.released

pub returns-in-None-clause-fresh : goal.returns-in-None-clause-fresh
unfolding documents_in
returns-in-None-clause-fresh c =
    let old = c.args.self.now in
    let d = stored_view c.args.document.value in
    let new_claims = c.push_claims.new.new_claims.items in
    put_fresh old _ _ (d ∷ []) (claimed_uris new_claims) []
    (c.in-Ok.ensures.placed ∙ ap (documents_with d) c.claim.ensures.same) refl
    (only_made c.claim.new.self.claims c.make_claims.new.claims (λ u. last_claim u (claims_in new_claims)) (claimed_uris new_claims) c.make_claims.ensures old.claims
    (subst (λ ps. ClaimsOnly old.claims (claimed_uris ps) c.claim.new.self.claims) c.deref.ensures.value c.in_ok-claim.ensures.only))
    (own_uris new_claims (d ∷ []) (claims_made c.new-new_claims.result.items new_claims d c.new-new_claims.ensures.items c.in_ok-push_claims.ensures))
    (λ x e k i same u own. absurd (none_gone (documents_in old) d.canonical c.in-Ok.replaced (kept_documents old)
    (c.in-Ok.ensures.replaced ∙ ap (λ ds. document_of ds d.canonical) c.claim.ensures.same) c.in-None.is
    x k (ap (λ (y : Document). y.canonical) (only_one d e i) ∙ same)))
    (released_none _)

pub returns-in-Err-clause-fresh : goal.returns-in-Err-clause-fresh
unfolding documents_in
returns-in-Err-clause-fresh c =
    given_up c.args.self.now _ c.release_new_claims.new.self (claimed_uris c.deref-in-Err.result.now) (c.in-Err.ensures.kept ∙ c.claim.ensures.same)
    (subst (λ ps. ClaimsOnly c.args.self.now.claims (claimed_uris ps) c.claim.new.self.claims) (c.deref.ensures.value ∙ sym c.deref-in-Err.ensures.value) c.in_ok-claim.ensures.only)
    c.release_new_claims.ensures.released

use Rattle.std.proofs.Common.{◌≡◌, ◌+◌, Some, Contains, is_some, take, string_bytes, inl, inr, refl, sym, ap, ◌∙◌, subst}
use Rattle.std.proofs.lemmas.List.{take_all}
use Rattle.lemmas.proofs.Options.{some_from_is_some}
use Rattle.definitions.specs.Values.{Text}
use Rattle.stored_documents.specs.Claims.{claim_of, claims_in}
use Rattle.stored_documents.specs.StoredDocuments.{stored_view}
use Rattle.stored_documents.proofs.ClaimMaps.{only_same, only_next, only_part}
use Rattle.stored_documents.proofs.MadeClaims.{claims_taken, last_or_before, none_in}
use Rattle.stored_documents.proofs.claims.claim_unclaimed.Goals as goal

pub loop-claim-init : goal.loop-claim-init
loop-claim-init c = record { kept = λ u t h. h; so_far = λ u t h. absurd (none_in (u, t) h); only = only_same c.args.claims.now c.args.claims.now _ refl }

pub loop-claim-preserved : goal.loop-claim-preserved
loop-claim-preserved c =
    let l = c.loop-claim in
    let p = c.claim-item.result in
    let own : Text × Text = (string_bytes p.0, (stored_view p.1.value).canonical) in
    record {
      kept = λ u t h. c.claim_where_none.ensures.kept u t (l.invariant.kept u t h);
      so_far = λ u t h.
          elim (last_or_before (u, t) own (claims_in (take l.claim-index c.args.new_claims.now))
          (subst (λ ps. Contains ps (u, t)) (claims_taken c.args.new_claims.now l.claim-index p c.loop-claim-test.true c.claim-item.is) h)) [
            | inl before ↦
                let there : (x : Text) × (claim_of l.claims u ≡ Some x) = some_from_is_some (claim_of l.claims u) (l.invariant.so_far u t before) in
                ap is_some (c.claim_where_none.ensures.kept u there.0 there.1)
            | inr same ↦
                ap (λ v. is_some (claim_of c.claim_where_none.new.claims v)) (ap (λ (q : Text × Text). q.0) (sym same) ∙ sym c.as_str.ensures.value)
                ∙ c.in_ok-claim_where_none.ensures.claimed
          ];
      only = only_next c.args.claims.now l.claims c.claim_where_none.new.claims c.args.new_claims.now l.claim-index p c.as_str.result.now c.loop-claim-test.true c.claim-item.is c.as_str.ensures.value l.invariant.only c.claim_where_none.ensures.only;
    }

pub returns-clause-claimed : goal.returns-clause-claimed
returns-clause-claimed c = λ u t h.
    c.loop-claim.invariant.so_far u t (subst (λ ps. Contains (claims_in ps) (u, t)) (sym (take_all c.loop-claim.claim-index c.args.new_claims.now c.loop-claim-test.false)) h)

pub returns-clause-only : goal.returns-clause-only
returns-clause-only c = only_part c.args.claims.now c.loop-claim.claims c.args.new_claims.now c.loop-claim.claim-index c.loop-claim.invariant.only

pub returns-in_err-claim_where_none-clause-only : goal.returns-in_err-claim_where_none-clause-only
returns-in_err-claim_where_none-clause-only c =
    let l = c.loop-claim in
    only_part c.args.claims.now c.claim_where_none.new.claims c.args.new_claims.now (l.claim-index + 1)
    (only_next c.args.claims.now l.claims c.claim_where_none.new.claims c.args.new_claims.now l.claim-index c.claim-item.result c.as_str.result.now c.loop-claim-test.true c.claim-item.is c.as_str.ensures.value l.invariant.only c.claim_where_none.ensures.only)

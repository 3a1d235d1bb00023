use Rattle.std.proofs.Common.{◌≡◌, [], ◌∷◌, cond, length, option_map, string_bytes, ap, refl, sym, ◌∙◌, append_assoc, append-nil, arith}
use Rattle.std.proofs.lemmas.List.{nil_from_length}
use Rattle.std.specs.Vec.Iter.{into_iter_items}
use Rattle.definitions.specs.Values.{same_text}
use Rattle.stored_documents.specs.Claims.{claim_of, claims_in, last_claim}
use Rattle.stored_documents.specs.StoredDocuments.{stored_view}
use Rattle.stored_documents.proofs.MadeClaims.{none_made, claims_pushed, made_one_more}
use Rattle.stored_documents.proofs.claims.make_claims.Goals as goal

pub loop-claim-init : goal.loop-claim-init
loop-claim-init c =
    let gives = c.into_iter-claim-iterator.ensures.into_iter_gives in
    record {
      all = refl;
      left = gives.1 ∙ c.args.new_claims.ok.0 ∙ sym (ap length gives.0);
      so_far = λ uri. none_made uri (claim_of c.args.claims.now uri);
    }

pub loop-claim-preserved : goal.loop-claim-preserved
loop-claim-preserved c =
    let l = c.loop-claim in
    let step = c.in-Some.ensures.steps.0 in
    let own = string_bytes c.in-Some.claim.0 in
    let canonical = (stored_view c.in-Some.claim.1.value).canonical in
    record {
      all = append_assoc l.yielded (c.in-Some.claim ∷ []) _ ∙ rw (← step) l.invariant.all;
      left =
          let was = l.invariant.left in
          let gone = c.in-Some.ensures.steps.1 in
          let short = ap length step in
          omega arith;
      so_far = λ uri.
          c.make_claim.ensures uri
          ∙ ap (option_map (λ t. cond (same_text own uri) canonical t)) (l.invariant.so_far uri)
          ∙ made_one_more uri (claims_in l.yielded) (own, canonical) (claim_of c.args.claims.now uri)
          ∙ sym (ap (λ ps. option_map (last_claim uri ps) (claim_of c.args.claims.now uri)) (claims_pushed l.yielded c.in-Some.claim));
    }

pub returns : goal.returns
returns c =
    let l = c.loop-claim in
    let none : into_iter_items l.claim-iterator ≡ [] = nil_from_length _ (sym l.invariant.left ∙ c.in-None.ensures.steps.0) in
    let all : l.yielded ≡ c.args.new_claims.items = sym (append-nil l.yielded) ∙ rw none at l.invariant.all ∙ c.into_iter-claim-iterator.ensures.into_iter_gives.0 in
    λ uri. l.invariant.so_far uri ∙ ap (λ ps. option_map (last_claim uri (claims_in ps)) (claim_of c.args.claims.now uri)) all

use Rattle.std.proofs.Common.{string_bytes, refl, subst, ◌∙◌}
use Rattle.std.proofs.lemmas.List.{take_all}
use Rattle.std.specs.Global.{Global}
use Rattle.std.specs.declared.rc.Rc.{Rc}
use Rattle.std.specs.declared.string.String.{String}
use Rattle.definitions.specs.Values.{Text}
use Rattle.stored_documents.specs.Claims.{claimed_uris}
use Rattle.stored_documents.specs.StaleClaims.{Releases}
use Rattle.stored_documents.specs.declared.stored.Stored.{Stored}
use Rattle.stored_documents.proofs.FreshClaims.{released_none, released_next}
use Rattle.stored_documents.proofs.documents.Documents.release_new_claims.Goals as goal

pub loop-claim-init : goal.loop-claim-init
unfolding claimed_uris
loop-claim-init c = record { same = refl; released = released_none c.args.self.now }

pub loop-claim-preserved : goal.loop-claim-preserved
unfolding claimed_uris
loop-claim-preserved c =
    let l = c.loop-claim in
    let key : String Global × Rc Stored Global → Text = λ p. string_bytes p.0 in
    record {
      same = c.release.ensures.same ∙ l.invariant.same;
      released = released_next c.args.self.now l.self c.release.new.self key c.args.new_claims.now l.claim-index c.claim-item.result c.as_str.result.now c.loop-claim-test.true c.claim-item.is c.as_str.ensures.value
          l.invariant.released c.release.ensures.released;
    }

pub returns-clause-released : goal.returns-clause-released
returns-clause-released c =
    subst (λ ps. Releases c.args.self.now (claimed_uris ps) c.loop-claim.self) (take_all c.loop-claim.claim-index c.args.new_claims.now c.loop-claim-test.false) c.loop-claim.invariant.released

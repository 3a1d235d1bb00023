use Rattle.std.proofs.Common.{◌≡◌, ℕ, refl, sym, ap, ◌∙◌, inl, inr, ⊎_elim}
use Rattle.network.specs.Readiness.{has_bytes}
use Rattle.network.specs.Outboxes.{unsent_at}
use Rattle.network.specs.declared.networks.Occasion.TheVariants.{Opens, Ready, Late}
use Rattle.network.specs.declared.clients.Client.TheVariants.{Absent}
use Rattle.connections.specs.Connected.{handler_of}
use Rattle.serving_many.specs.Going.{Goes, state_of}
use Rattle.serving_many.specs.Present.{client_of, AllPresent}
use Rattle.serving_many.proofs.Among.{same_occasion, no_some, opens_not_over, late_not_over}
use Rattle.serving_many.proofs.Needed.{gone}
use Rattle.serving_many.proofs.Turns.{at_start, is_served, goes_on}
use Rattle.serving_many.proofs.serving.serve_all.Goals as goal
use Rattle.serving_many.proofs.serving.serve_all.Goals.{in-Some, in-None+in-Ok+in-Ok-wait, else-loop-test, then-loop-test+in-Some-Over}

pub loop-init : goal.loop-init
loop-init g c = record {
  goes = at_start _ _ _ _ _ _ _ refl refl refl c.requires c.new-outbox.ensures.none;
  due = λ k p e. absurd (no_some p (unsent_at c.new-outbox.result k) e (c.new-outbox.ensures.none k));
  needed = λ k. gone _ _ (c.requires k) (c.new-outbox.ensures.none k);
  present = λ none k. none k ∙ sym (ap client_of (c.new-outbox.ensures.none k));
}

pub returns-in-Err-clause-served : goal.returns-in-Err-clause-served
returns-in-Err-clause-served g c =
    is_served g.H.Handler.state g.H.Handler.finds g.H.Handler.answers _ _ c.end_round.new.outbox _ _ _ _ _ _ (c.end_round.ensures.kept _ _ _
    (goes_on g.H.Handler.state g.H.Handler.finds g.H.Handler.answers _ _ _ c.loop.sessions c.loop.outbox _ _ _ _ c.next.ensures.reads c.next.ensures.writes c.loop.invariant.goes)) (c.end_round.ensures.needed c.loop.invariant.needed)
    (λ none. c.end_round.ensures.present (λ k. c.next.ensures.clients k (λ is. no_some (Opens k) c.next.result is c.in-None.is) (λ is. no_some (Late k) c.next.result is c.in-None.is) ∙ c.loop.invariant.present none k))

pub wait-requires : goal.wait-requires
wait-requires g c k p e =
    c.in-Ok.ensures.due (λ j q e. ⊎_elim (λ d. inl (c.next.ensures.due j (has_bytes q) (λ is. no_some (Ready j) c.next.result is c.in-None.is) d)) (λ m. inr m) (c.loop.invariant.due j q e)) k p e

pub returns-in-Err-wait-clause-served : goal.returns-in-Err-wait-clause-served
returns-in-Err-wait-clause-served g c =
    is_served g.H.Handler.state g.H.Handler.finds g.H.Handler.answers _ _ c.end_round.new.outbox _ _ _ _ _ _
    (goes_on g.H.Handler.state g.H.Handler.finds g.H.Handler.answers _ _ _ c.end_round.new.sessions c.end_round.new.outbox _ _ _ _ c.in-Err-wait.ensures.reads c.in-Err-wait.ensures.writes (c.end_round.ensures.kept _ _ _
    (goes_on g.H.Handler.state g.H.Handler.finds g.H.Handler.answers _ _ _ c.loop.sessions c.loop.outbox _ _ _ _ c.next.ensures.reads c.next.ensures.writes c.loop.invariant.goes))) (c.end_round.ensures.needed c.loop.invariant.needed)
    (λ none k. c.in-Err-wait.ensures.clients k
    ∙ c.end_round.ensures.present (λ j. c.next.ensures.clients j (λ is. no_some (Opens j) c.next.result is c.in-None.is) (λ is. no_some (Late j) c.next.result is c.in-None.is) ∙ c.loop.invariant.present none j) k)

pub loop-preserved : goal.loop-preserved
loop-preserved g c =
    let goes = goes_on g.H.Handler.state g.H.Handler.finds g.H.Handler.answers _ _ _ c.loop.sessions c.loop.outbox _ _ _ _ c.next.ensures.reads c.next.ensures.writes c.loop.invariant.goes in
    elim c.match-next.branch [
      | in-Some w ↦
          rw (w.sessions-is, w.outbox-is, w.network-is, w.round-is) (record {
            goes = w.meet.ensures.kept _ _ _ goes;
            due = w.meet.ensures.due (λ k p ne e.
                ⊎_elim (λ d. inl (c.next.ensures.due k (has_bytes p) (λ is. ne (same_occasion c.next.result w.in-Some.occasion (Ready k) w.in-Some.is is)) d)) (λ m. inr m)
                (c.loop.invariant.due k p e));
            needed = w.meet.ensures.needed;
            present = λ none. w.meet.ensures.present (λ k opens late.
                c.next.ensures.clients k (λ is. opens (same_occasion c.next.result w.in-Some.occasion (Opens k) w.in-Some.is is)) (λ is. late (same_occasion c.next.result w.in-Some.occasion (Late k) w.in-Some.is is))
                ∙ c.loop.invariant.present none k);
          })
      | in-None+in-Ok+in-Ok-wait w ↦
          let due = w.in-Ok.ensures.due (λ k p e.
          ⊎_elim (λ d. inl (c.next.ensures.due k (has_bytes p) (λ is. no_some (Ready k) c.next.result is w.in-None.is) d)) (λ m. inr m) (c.loop.invariant.due k p e)) in
          rw (w.sessions-is, w.outbox-is, w.network-is, w.round-is) (record {
            goes = goes_on g.H.Handler.state g.H.Handler.finds g.H.Handler.answers _ _ _ w.end_round.new.sessions w.end_round.new.outbox _ _ _ _ w.wait.ensures.reads w.wait.ensures.writes (w.end_round.ensures.kept _ _ _ goes);
            due = λ k p e. ⊎_elim (λ d. inl (w.in-Ok-wait.ensures.due k (has_bytes p) d)) (λ m. absurd m) (due k p e);
            needed = w.end_round.ensures.needed c.loop.invariant.needed;
            present = λ none k. w.wait.ensures.clients k
                ∙ w.end_round.ensures.present (λ j. c.next.ensures.clients j (λ is. no_some (Opens j) c.next.result is w.in-None.is) (λ is. no_some (Late j) c.next.result is w.in-None.is) ∙ c.loop.invariant.present none j) k;
          })
    ]

pub returns-clause-served : goal.returns-clause-served
returns-clause-served g c =
    let goes : Goes g.H.Handler.state g.H.Handler.finds g.H.Handler.answers (handler_of c.args.sessions.now) (g.N.Network.reads c.args.network.now) (g.N.Network.writes c.args.network.now)
    (state_of c.loop.sessions c.loop.outbox (g.N.Network.reads c.loop-test.network) (g.N.Network.writes c.loop-test.network)) =
    elim c.loop-test.branch [
      | else-loop-test w ↦ rw w.network-is c.loop.invariant.goes
      | then-loop-test+in-Some-Over w ↦
          rw w.network-is (goes_on g.H.Handler.state g.H.Handler.finds g.H.Handler.answers _ _ _ c.loop.sessions c.loop.outbox _ _ _ _ w.next.ensures.reads w.next.ensures.writes c.loop.invariant.goes)
    ] in
    let present : ((k : ℕ) → g.N.Network.client c.args.network.now k ≡ Absent) → AllPresent (g.N.Network.client c.loop-test.network) (unsent_at c.loop.outbox) =
    λ none. elim c.loop-test.branch [
      | else-loop-test w ↦ rw w.network-is (c.loop.invariant.present none)
      | then-loop-test+in-Some-Over w ↦
          rw w.network-is (λ k. w.next.ensures.clients k (opens_not_over w.next.result k (rw w.in-Some-Over.field-0-is at w.in-Some-Over.is)) (late_not_over w.next.result k (rw w.in-Some-Over.field-0-is at w.in-Some-Over.is)) ∙ c.loop.invariant.present none k)
    ] in
    is_served g.H.Handler.state g.H.Handler.finds g.H.Handler.answers _ _ c.end_round-2.new.outbox _ _ _ _ _ _ (c.end_round-2.ensures.kept _ _ _ goes) (c.end_round-2.ensures.needed c.loop.invariant.needed)
    (λ none. c.end_round-2.ensures.present (present none))

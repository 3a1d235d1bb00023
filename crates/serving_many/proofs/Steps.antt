-- Steps on one connection, one behind the other, and what then holds of all.
use Rattle.std.proofs.Common.{◌≡◌, ◌≢◌, ℕ, List, ◌∙◌}
use Rattle.connections.specs.Connected.{connection_at}
use Rattle.connections.specs.declared.handlers.Handler as handler
use Rattle.connections.specs.declared.sessions.Sessions.{Sessions}
use Rattle.network.specs.Clients.{OthersAreSame}
use Rattle.network.specs.Outboxes.{unsent_at, OthersStay}
use Rattle.network.specs.Readiness.{OthersDue}
use Rattle.network.specs.Traffic.{Moved}
use Rattle.network.specs.declared.networks.Network as network
use Rattle.network.specs.declared.outbox.Outbox.{Outbox}
use Rattle.serving_many.specs.Going.{Keeps, state_of}
use Rattle.serving_many.specs.Needed.{IsNeeded, AllNeeded}
use Rattle.serving_many.specs.Present.{client_of, AllPresent}
use Rattle.serving_many.specs.Steps.{StepFrom}
use Rattle.serving_many.proofs.Needed.{needed_on}
use Rattle.serving_many.proofs.Present.{present_on}

module _ {H N : Type 0} {h : handler.Ghosts H} {n : network.Ghosts N} {id : ℕ} {noted : List Moved} {s t u : Sessions H} {o p q : Outbox} {a b c : N} where
  -- behind what was done before it
  pub step_behind : Keeps h.state h.finds h.answers (state_of s o noted (n.writes a)) (state_of t p (n.reads b) (n.writes b))
      → ((k : ℕ) → k ≢ id → connection_at t k ≡ connection_at s k) → OthersStay id o p → OthersDue id (n.due a) (n.due b) → OthersAreSame id (n.client a) (n.client b)
      → StepFrom h n id (n.reads b) t p b u q c → StepFrom h n id noted s o a u q c
  step_behind kept same others due clients step = record {
    kept = λ start reads writes x. step.kept start reads writes (kept start reads writes x);
    connections = λ k ne. step.connections k ne ∙ same k ne;
    unsent = λ k ne. step.unsent k ne ∙ others k ne;
    due = λ k d ne x. step.due k d ne (due k d ne x);
    clients = λ k ne. step.clients k ne ∙ clients k ne;
  }

module _ {H N : Type 0} {h : handler.Ghosts H} {n : network.Ghosts N} {id : ℕ} {noted : List Moved} {s t : Sessions H} {o p : Outbox} {a b : N} where
  -- what then holds of all
  pub all_needed : StepFrom h n id noted s o a t p b → IsNeeded (connection_at t id) (unsent_at p id) → AllNeeded (connection_at s) (unsent_at o) → AllNeeded (connection_at t) (unsent_at p)
  all_needed step own = needed_on (connection_at s) (connection_at t) (unsent_at o) (unsent_at p) id own step.connections step.unsent

  pub all_present : StepFrom h n id noted s o a t p b → n.client b id ≡ client_of (unsent_at p id) → ((k : ℕ) → k ≢ id → n.client a k ≡ client_of (unsent_at o k)) → AllPresent (n.client b) (unsent_at p)
  all_present step own = present_on (n.client a) (n.client b) (unsent_at o) (unsent_at p) id own step.clients step.unsent

-- What the loop does on one connection.
use Rattle.std.specs.Prelude.{◌≡◌, ◌≢◌, ◌⊎◌, ℕ, List, [], ◌∷◌, ◌++◌}
use Rattle.connections.specs.Connected.{connection_at}
use Rattle.connections.specs.declared.handlers.Handler as handler
use Rattle.connections.specs.declared.sessions.Sessions.{Sessions}
use Rattle.network.specs.Clients.{OthersAreSame}
use Rattle.network.specs.Outboxes.{unsent_at}
use Rattle.network.specs.Readiness.{OthersDue}
use Rattle.network.specs.Traffic.{Moved}
use Rattle.network.specs.declared.networks.Network as network
use Rattle.network.specs.declared.outbox.Outbox.{Outbox}
use Rattle.serving_many.specs.Going.{Keeps, state_of}

-- A step on one connection, from where these reads had been noted: what has happened before goes on so, and every other
-- connection is as it was: what is open of it, what is to be sent on it, and its client; and it is due where it was.
pub record StepFrom {H N : Type 0} (h : handler.Ghosts H) (n : network.Ghosts N) (id : ℕ) (noted : List Moved) (sessions : Sessions H) (outbox : Outbox) (net : N) (sessions_then : Sessions H) (outbox_then : Outbox) (net_then : N) : Type 0 where
  pub kept : Keeps h.state h.finds h.answers (state_of sessions outbox noted (n.writes net)) (state_of sessions_then outbox_then (n.reads net_then) (n.writes net_then))
  pub connections : (k : ℕ) → k ≢ id → connection_at sessions_then k ≡ connection_at sessions k
  pub unsent : (k : ℕ) → k ≢ id → unsent_at outbox_then k ≡ unsent_at outbox k
  pub due : OthersDue id (n.due net) (n.due net_then)
  pub clients : OthersAreSame id (n.client net) (n.client net_then)

abbrev pub Step : {H N : Type 0} → handler.Ghosts H → network.Ghosts N → ℕ → Sessions H → Outbox → N → Sessions H → Outbox → N → Type 0
Step h n id sessions outbox net sessions_then outbox_then net_then = StepFrom h n id (n.reads net) sessions outbox net sessions_then outbox_then net_then

-- this connection gives way, or nobody does
abbrev pub MayGiveWay : ℕ → List ℕ → List ℕ → Type 0
MayGiveWay id before after = (after ≡ before ++ id ∷ []) ⊎ (after ≡ before)

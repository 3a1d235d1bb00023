-- Sockets by their numbers.
use Rattle.std.specs.Prelude.{◌≡◌, ◌≢◌, ℕ, Bool, true, Option, Some, None, option_map}
use Rattle.std.specs.BTreeMap.{get}
use Rattle.std.specs.Ordering.{nat_cmp}
use Rattle.network.specs.declared.clients.Client.{Client}
use Rattle.sockets.specs.declared.socket.Socket.{Socket}
use Rattle.sockets.specs.declared.table.Table.{Table}
use Rattle.sockets.specs.Socket.{client_in, is_due, with_rest}

abbrev pub socket_at : Table → ℕ → Option Socket
socket_at t id = get nat_cmp t.sockets id

abbrev pub client_at : Table → ℕ → Client
client_at t k = client_in (socket_at t k)

-- the connection with this number will be told ready, once it can be read, or (`true`) written; or isn't open
abbrev pub IsDue : Table → Bool → ℕ → Type 0
IsDue t d k = is_due d (socket_at t k) ≡ true

abbrev pub OthersStay : ℕ → Table → Table → Type 0
OthersStay id old new = (k : ℕ) → k ≢ id → socket_at new k ≡ socket_at old k

-- another rest of this connection is known at most: its socket and all else that is known of it are as they were, and so
-- is every other one
pub record OnlyRests (id : ℕ) (old new : Table) : Type 0 where
  pub own : option_map (with_rest None) (socket_at new id) ≡ option_map (with_rest None) (socket_at old id)
  pub others : OthersStay id old new

-- every client is as it was
abbrev pub KeepsClients : Table → Table → Type 0
KeepsClients old new = (k : ℕ) → client_at new k ≡ client_at old k

-- .. but for this one
abbrev pub KeepsClientsBut : Option ℕ → Table → Table → Type 0
KeepsClientsBut but old new = (k : ℕ) → but ≢ Some k → client_at new k ≡ client_at old k

-- what is due stays due
abbrev pub StaysDue : Table → Table → Type 0
StaysDue old new = (k : ℕ) (d : Bool) → IsDue old d k → IsDue new d k

-- .. but for the one that is told ready
abbrev pub StaysDueBut : Option ℕ → Table → Table → Type 0
StaysDueBut told old new = (k : ℕ) (d : Bool) → told ≢ Some k → IsDue old d k → IsDue new d k

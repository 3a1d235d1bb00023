-- The clients of connections over memory.
use Rattle.std.specs.Prelude.{ℕ, Option, Some, None}
use Rattle.std.specs.BTreeMap.{get}
use Rattle.std.specs.Ordering.{nat_cmp}
use Rattle.network.specs.Clients.{AllAreSame}
use Rattle.network.specs.declared.clients.Client.{Client}
use Rattle.network.specs.declared.clients.Client.TheVariants.{Absent}
use Rattle.network.specs.declared.peers.Peer.{Peer}
use Rattle.network.specs.declared.scenes.Scene.{Scene}

abbrev pub client_in : Option Peer → Client
client_in None = Absent
client_in (Some peer) = peer.client

abbrev pub client_at : Scene → ℕ → Client
client_at s k = client_in (get nat_cmp s.peers k)

-- every client is as it was
abbrev pub Stays : Scene → Scene → Type 0
Stays old new = AllAreSame (client_at old) (client_at new)

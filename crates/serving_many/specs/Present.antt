-- Which connections have a client.
use Rattle.std.specs.Prelude.{◌≡◌, ◌≢◌, ℕ, Option, Some, None}
use Rattle.definitions.specs.Values.{Text}
use Rattle.http_definitions.specs.Connections.{Connection}
use Rattle.network.specs.declared.clients.Client.{Client}
use Rattle.network.specs.declared.clients.Client.TheVariants.{Absent, Present, Failed}
use Rattle.network.specs.declared.networks.Occasion.{Occasion}
use Rattle.network.specs.declared.networks.Occasion.TheVariants.{Opens, Late}

-- one that is served, which has something to be sent or nothing; one that failed is served no more
abbrev pub client_of : Option Text → Client
client_of (Some bytes) = Present
client_of None = Absent

-- those that are served, and no others
abbrev pub AllPresent : (ℕ → Client) → (ℕ → Option Text) → Type 0
AllPresent client unsent = (k : ℕ) → client k ≡ client_of (unsent k)

-- .. but for the one that opens or is late
abbrev pub ArePresentAt : Occasion → (ℕ → Client) → (ℕ → Option Text) → Type 0
ArePresentAt occasion client unsent =
    (k : ℕ) → occasion ≢ Opens k → occasion ≢ Late k → client k ≡ client_of (unsent k)

-- where the client is still there, it hasn't failed, and the connection is open, or not yet all is
-- written that it was to be sent
abbrev pub MayStay : Client → Option Connection → Text → Text → Type 0
MayStay Absent connection sent wrote = Unit {0}
MayStay Present connection sent wrote = connection ≡ None → sent ≢ wrote
MayStay Failed connection sent wrote = ⊥

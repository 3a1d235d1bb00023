-- Connections that registries in memory serve, one after the other.
use Rattle.std.proofs.Common.{◌≡◌, ◌<◌, ℕ, List, Result, Ok, Err, length, refl, subst}
use Rattle.definitions.specs.Services.{KeyedRegistry}
use Rattle.connections.specs.declared.handlers.Unsettled.{Unsettled}
use Rattle.connections.specs.declared.outage.Outage.{Outage}
use Rattle.connections.specs.declared.outage.Outage.TheVariants as outage
use Rattle.serving.specs.Talks.{Talk, AreServed, AreAllServed}
use Rattle.http_front.specs.Isolation.{AreServedAlone}
use Rattle.http_front.specs.Calls.{call_answers}
use Rattle.http_front.proofs.Isolated.{served_alone}
use Rattle.service_forms.specs.Services.{ServeAlone, ServeInTurn}

-- so many
all_alone : (registries before after : List KeyedRegistry) (P : ℕ → Type 0) (xs : List Talk) → before ≡ registries
    → AreServed call_answers before xs after → P (length xs) → ServeAlone registries P
all_alone registries before after P xs same x h =
    (xs, after, h, subst (λ ks. AreServedAlone ks xs after) same (served_alone xs before after x))

-- by what is never unsettled
pub served_in_turn : (registries before after : List KeyedRegistry) (count : ℕ) (r : Result (Unit {0}) Outage) → before ≡ registries
    → ((why : Unsettled) → ¬ (r ≡ Err (outage.Unsettled why))) → AreAllServed call_answers count before r after → ServeInTurn registries count r
served_in_turn registries before after count (Ok u) same settled x = all_alone registries before after (λ n. n ≡ count) x.0 same x.1 x.2
served_in_turn registries before after count (Err outage.Broken) same settled x = all_alone registries before after (λ n. n < count) x.0 same x.1 x.2
served_in_turn registries before after count (Err (outage.Unsettled why)) same settled x = absurd (settled why refl)

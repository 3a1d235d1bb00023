-- Who is due, and who gives way, while an occasion is met.
use Rattle.std.specs.Prelude.{◌≡◌, ◌≢◌, ◌⊎◌, ℕ, List, Bool, Option, Some}
use Rattle.definitions.specs.Values.{Text}
use Rattle.network.specs.Readiness.{has_bytes, IsAmong}
use Rattle.network.specs.declared.networks.Occasion.{Occasion}
use Rattle.network.specs.declared.networks.Occasion.TheVariants.{Opens, Ready, Late, Over}
use Rattle.serving_many.specs.Steps.{MayGiveWay}

-- each open connection is due or among these, but for the one that is told ready
abbrev pub IsDueBut : Occasion → (ℕ → Option Text) → (Bool → ℕ → Type 0) → List ℕ → Type 0
IsDueBut occasion unsent due ids =
    (k : ℕ) (bytes : Text) → occasion ≢ Ready k → unsent k ≡ Some bytes → due (has_bytes bytes) k ⊎ IsAmong k ids

-- nobody gives way but the one that is told ready
abbrev pub MayGiveWayAt : Occasion → List ℕ → List ℕ → Type 0
MayGiveWayAt (Ready id) before after = MayGiveWay id before after
MayGiveWayAt (Opens id) before after = after ≡ before
MayGiveWayAt (Late id) before after = after ≡ before
MayGiveWayAt Over before after = after ≡ before

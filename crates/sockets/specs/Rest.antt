-- Rests behind what took long.
use Rattle.std.specs.Prelude.{◌≡◌, ◌+◌, ℕ, Bool}
use Rattle.std.specs.Duration.{as_nanos}
use Rattle.std.specs.Time.{instant_nanos}
use Rattle.std.specs.declared.time.Instant.{Instant}
use Rattle.sockets.specs.declared.rest.Rest.{Rest}

-- it begins now, and lasts for so many nanoseconds, or until nobody else was ready for so many
pub record Begins (rest : Rest) (now : Instant) (time quiet count : ℕ) (gives_way : Bool) : Type 0 where
  pub until : instant_nanos rest.until ≡ instant_nanos now + time
  pub lull : as_nanos rest.lull ≡ quiet
  pub turns : rest.turns ≡ count
  pub kind : rest.gives_way ≡ gives_way

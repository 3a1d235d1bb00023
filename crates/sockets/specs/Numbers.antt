-- How connections are numbered.
use Rattle.std.specs.Prelude.{ℕ, ◌+◌, Option, Some, None}
use Rattle.network.specs.declared.networks.Occasion.{Occasion}
use Rattle.network.specs.declared.networks.Occasion.TheVariants as occasion

-- how many numbers were given: one more where a connection opens
abbrev pub count_after : Option Occasion → ℕ → ℕ
count_after (Some (occasion.Opens id)) n = n + 1
count_after (Some (occasion.Ready id)) n = n
count_after (Some (occasion.Late id)) n = n
count_after (Some occasion.Over) n = n
count_after None n = n

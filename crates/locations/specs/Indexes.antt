-- Indexes that a machine's word holds.
use Rattle.std.specs.Prelude.{ℕ, ◌^◌, Option, Some, None, nat_lt, if◌then◌else◌}

-- the number, if it has no more than 64 bits
abbrev pub in_64_bits : ℕ → Option ℕ
in_64_bits n = if nat_lt n (2 ^ 64) then Some n else None

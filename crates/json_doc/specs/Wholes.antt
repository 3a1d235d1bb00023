-- Whole numbers.
use Rattle.std.specs.Prelude.{ℕ, ℤ, pos, negsuc, Bool, true, false, Option, Some, None}

-- the number, if it isn't below zero
abbrev pub as_natural : ℤ → Option ℕ
as_natural (pos n) = Some n
as_natural (negsuc n) = None

-- the number that is this far from 0, or below zero from -1
abbrev pub number_of : Bool → ℕ → ℤ
number_of false n = pos n
number_of true n = negsuc n

abbrev pub distance_of : ℤ → ℕ
distance_of (pos n) = n
distance_of (negsuc n) = n

abbrev pub is_below_zero : ℤ → Bool
is_below_zero (pos n) = false
is_below_zero (negsuc n) = true

-- What the test of an order says.
use Rattle.std.proofs.Common.{◌≡◌, true, false, Ordering, Less, Equal, Greater, refl}
use Rattle.std.specs.Ordering.{is_lt}

pub is_less : (o : Ordering) → is_lt o ≡ true → o ≡ Less
is_less Less h = refl
is_less Equal h = cc
is_less Greater h = cc

pub less_is_lt : (o : Ordering) → o ≡ Less → is_lt o ≡ false → ⊥
less_is_lt Less e h = cc
less_is_lt Equal e h = cc
less_is_lt Greater e h = cc

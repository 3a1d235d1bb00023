-- A connection that was settled, and one that wasn't.
use Rattle.std.proofs.Common.{◌≡◌, Result, Ok, Err}
use Rattle.connections.specs.declared.handlers.Unsettled.{Unsettled}
use Rattle.serving.specs.declared.failure.Failure.{Failure}
use Rattle.serving.specs.declared.failure.Failure.TheVariants as failure
use Rattle.sockets.specs.Endings.{unsettled_in}

pub none_unsettled : (r : Result (Unit {0}) Failure) (u : Unit {0}) → Ok u ≡ unsettled_in r → (why : Unsettled) → ¬ (r ≡ Err (failure.Unsettled why))
none_unsettled (Ok v) u e why is = cc is
none_unsettled (Err (failure.Fault f)) u e why is = cc is
none_unsettled (Err (failure.Unsettled w)) u e why is = cc e

pub one_unsettled : (r : Result (Unit {0}) Failure) (why : Unsettled) → Err why ≡ unsettled_in r → r ≡ Err (failure.Unsettled why)
one_unsettled (Ok v) why e = absurd (cc e)
one_unsettled (Err (failure.Fault f)) why e = absurd (cc e)
one_unsettled (Err (failure.Unsettled w)) why e = cc e

-- How a connection ends the serving of all.
use Rattle.std.specs.Prelude.{Result, Ok, Err}
use Rattle.connections.specs.declared.handlers.Unsettled.{Unsettled}
use Rattle.serving.specs.declared.failure.Failure.{Failure}
use Rattle.serving.specs.declared.failure.Failure.TheVariants as failure

-- a fault ends it alone
abbrev pub unsettled_in : Result (Unit {0}) Failure → Result (Unit {0}) Unsettled
unsettled_in (Ok u) = Ok u
unsettled_in (Err (failure.Fault f)) = Ok tt
unsettled_in (Err (failure.Unsettled why)) = Err why

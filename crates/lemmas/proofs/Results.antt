-- What stands whatever a result is.
use Rattle.std.proofs.Common.{Result, Ok, Err, OnErr}

pub on_err : {A E P : Type 0} (r : Result A E) → P → OnErr r P
on_err (Ok x) p = tt
on_err (Err e) p = p

-- What isn't known of a file.
use Rattle.std.proofs.Common.{List, ℕ, Option, Some, None}
use Rattle.std.specs.Option.{IfSome}

pub whatever : {A : Type 0} (o : Option A) (P : A → Type 0) → ((x : A) → P x) → IfSome o P
whatever None P f = tt
whatever (Some x) P f = f x

-- What `then` and `else` apply, by what `if` said.
use Rattle.std.proofs.Common.{◌≡◌, [], ◌∷◌, Bool, true, false, Option, Some, None, cond, option_map, refl}
use mathlib.Core.Bool.{beq}
use Rattle.definitions.specs.Values.{Text, Value}
use Rattle.definitions.specs.Applied.{Application, Outcome, in_place, consequence_of}

by_value : (a : Application) (k : Text) (wanted : Bool) (v : Value) (o : Outcome) (passed : Bool) → o.valid ≡ passed
    → consequence_of a k wanted v (Some o) ≡ cond (beq passed wanted) (in_place a (k ∷ []) v ∷ []) []
by_value a k true v o true e = rw e refl
by_value a k true v o false e = rw e refl
by_value a k false v o true e = rw e refl
by_value a k false v o false e = rw e refl

pub consequence-beside : (a : Application) (k : Text) (wanted : Bool) (v : Value) (o : Option Outcome) (passed : Bool) → option_map (λ (o : Outcome). o.valid) o ≡ Some passed
    → consequence_of a k wanted v o ≡ cond (beq passed wanted) (in_place a (k ∷ []) v ∷ []) []
consequence-beside a k wanted v None passed e = cc
consequence-beside a k wanted v (Some o) passed e = by_value a k wanted v o passed (cc)

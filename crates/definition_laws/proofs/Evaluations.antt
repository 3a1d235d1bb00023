-- What fails evaluates nothing.
use Rattle.std.proofs.Common.{◌≡◌, ℕ, zero, suc, [], Bool, true, false, cond, refl}
use Rattle.definitions.specs.Values.{Value, null, boolean, integer, string, array, object}
use Rattle.definitions.specs.Applied.{Application, Outcome, Rules}
use Rattle.definitions.specs.Outcomes.{outcome, schema_outcome, object_outcome, leaf, is_running}

abbrev EvaluatesNothing : Outcome → Type 0
EvaluatesNothing o = o.valid ≡ false → (o.names ≡ []) × (o.indexes ≡ [])

object_nothing : (rules : Rules) (run : Application → Outcome) (a : Application) → EvaluatesNothing (object_outcome rules run a)
unfolding object_outcome
object_nothing rules run a e = rw e (refl, refl)

schema_nothing : (rules : Rules) (run : Application → Outcome) (a : Application) (v : Value) → EvaluatesNothing (schema_outcome rules run a v)
schema_nothing rules run a null = object_nothing rules run a
schema_nothing rules run a (boolean b) = λ e. (refl, refl)
schema_nothing rules run a (integer z) = object_nothing rules run a
schema_nothing rules run a (string s) = object_nothing rules run a
schema_nothing rules run a (array vs) = object_nothing rules run a
schema_nothing rules run a (object ms) = object_nothing rules run a

one_of_two : (b : Bool) (o p : Outcome) → EvaluatesNothing o → EvaluatesNothing p → EvaluatesNothing (cond b o p)
one_of_two true o p h k = h
one_of_two false o p h k = k

pub failing_nothing : (rules : Rules) (n : ℕ) (a : Application) → EvaluatesNothing (outcome rules n a)
unfolding outcome
failing_nothing rules zero a = one_of_two (is_running a) (leaf true false) (leaf false true) (λ e. (refl, refl)) (λ e. (refl, refl))
failing_nothing rules (suc n) a = one_of_two (is_running a) (leaf true false) _ (λ e. (refl, refl)) (schema_nothing rules (outcome rules n) a a.schema.value)

-- What fails gives no annotation, and what passes no error.
use Rattle.std.proofs.Common.{◌≡◌, ℕ, zero, suc, [], Bool, true, false, cond, refl}
use Rattle.definitions.specs.Values.{Value, null, boolean, integer, string, array, object}
use Rattle.definitions.specs.Applied.{Application, Outcome, Rules}
use Rattle.definitions.specs.Outcomes.{outcome, schema_outcome, object_outcome, leaf, is_running}
use Rattle.definition_laws.specs.Applications.{FailingAnnotatesNothing, PassingReportsNoError}

-- nothing but what its verdict reports
abbrev ReportsItsOwn : Outcome → Type 0
ReportsItsOwn o = (o.valid ≡ false → o.annotations ≡ []) × (o.valid ≡ true → o.errors ≡ [])

object_own : (rules : Rules) (run : Application → Outcome) (a : Application) → ReportsItsOwn (object_outcome rules run a)
unfolding object_outcome
object_own rules run a = (λ e. rw e refl, λ e. rw e refl)

boolean_own : (rules : Rules) (run : Application → Outcome) (a : Application) (b : Bool) → ReportsItsOwn (schema_outcome rules run a (boolean b))
boolean_own rules run a true = (λ e. refl, λ e. refl)
boolean_own rules run a false = (λ e. refl, λ e. absurd (cc))

schema_own : (rules : Rules) (run : Application → Outcome) (a : Application) (v : Value) → ReportsItsOwn (schema_outcome rules run a v)
schema_own rules run a null = object_own rules run a
schema_own rules run a (boolean b) = boolean_own rules run a b
schema_own rules run a (integer z) = object_own rules run a
schema_own rules run a (string s) = object_own rules run a
schema_own rules run a (array vs) = object_own rules run a
schema_own rules run a (object ms) = object_own rules run a

one_of_two : (b : Bool) (o p : Outcome) → ReportsItsOwn o → ReportsItsOwn p → ReportsItsOwn (cond b o p)
one_of_two true o p h k = h
one_of_two false o p h k = k

outcome_own : (rules : Rules) (n : ℕ) (a : Application) → ReportsItsOwn (outcome rules n a)
unfolding outcome
outcome_own rules zero a = one_of_two (is_running a) (leaf true false) (leaf false true) (λ e. refl, λ e. refl) (λ e. refl, λ e. refl)
outcome_own rules (suc n) a = one_of_two (is_running a) (leaf true false) _ (λ e. refl, λ e. refl) (schema_own rules (outcome rules n) a a.schema.value)

pub failing_annotates_nothing : FailingAnnotatesNothing
failing_annotates_nothing rules n a = (outcome_own rules n a).0

pub passing_reports_no_error : PassingReportsNoError
passing_reports_no_error rules n a = (outcome_own rules n a).1

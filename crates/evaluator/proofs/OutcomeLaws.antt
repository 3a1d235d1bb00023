-- Laws of outcomes.
use Rattle.std.proofs.Common.{◌≡◌, ℕ, zero, suc, ◌-◌, ◌<◌, Some, None, cond, Bool, true, false, refl, sym, ap, ◌∙◌, arith}
use Rattle.std.proofs.Math.Numerals.{sub-one}
use Rattle.definitions.specs.Values.{Value, null, boolean, integer, string, array, object, is_object}
use Rattle.definitions.specs.Applied.{Application, Outcome, Rules}
use Rattle.definitions.specs.Outcomes.{outcome, schema_outcome, object_outcome, boolean_outcome, leaf, is_running}
use Rattle.evaluator.specs.Rounds.{boolean_at}
use Rattle.json_doc.specs.Kinds.{as_boolean}

-- ---- one outcome
object_count : (rules : Rules) (run : Application → Outcome) (a : Application) → 0 < (object_outcome rules run a).count
unfolding object_outcome
object_count rules run a = omega arith

schema_count : (rules : Rules) (run : Application → Outcome) (a : Application) (v : Value) → 0 < (schema_outcome rules run a v).count
schema_count rules run a (boolean b) = omega arith
schema_count rules run a null = object_count rules run a
schema_count rules run a (integer z) = object_count rules run a
schema_count rules run a (string s) = object_count rules run a
schema_count rules run a (array vs) = object_count rules run a
schema_count rules run a (object ms) = object_count rules run a

one_of_two : (b : Bool) (o p : Outcome) → 0 < o.count → 0 < p.count → 0 < (cond b o p).count
one_of_two true o p h k = h
one_of_two false o p h k = k

-- each application counts itself
pub count_pos : (rules : Rules) (n : ℕ) (a : Application) → 0 < (outcome rules n a).count
unfolding outcome
count_pos rules zero a = one_of_two (is_running a) (leaf true false) (leaf false true) (omega arith) (omega arith)
count_pos rules (suc n) a = one_of_two (is_running a) (leaf true false) _ (omega arith) (schema_count rules (outcome rules n) a a.schema.value)

-- what is being applied already loops
pub outcome-running : (rules : Rules) (n : ℕ) (a : Application) → is_running a ≡ true → outcome rules n a ≡ leaf true false
unfolding outcome
outcome-running rules zero a r = ap (λ b. cond b (leaf true false) (leaf false true)) r
outcome-running rules (suc n) a r = ap (λ b. cond b (leaf true false) (schema_outcome rules (outcome rules n) a a.schema.value)) r

pub outcome-zero : (rules : Rules) (n : ℕ) (a : Application) → is_running a ≡ false → n ≡ 0 → outcome rules n a ≡ leaf false true
unfolding outcome
outcome-zero rules zero a r e = ap (λ b. cond b (leaf true false) (leaf false true)) r
outcome-zero rules (suc n) a r e = absurd (omega arith)

outcome-suc : (rules : Rules) (n : ℕ) (a : Application) → is_running a ≡ false → 0 < n
    → outcome rules n a ≡ schema_outcome rules (outcome rules (n - 1)) a a.schema.value
unfolding outcome
outcome-suc rules zero a r l = absurd (omega arith)
outcome-suc rules (suc n) a r l =
    ap (λ b. cond b (leaf true false) (schema_outcome rules (outcome rules n) a a.schema.value)) r ∙ rw sub-one refl

at_boolean : (rules : Rules) (run : Application → Outcome) (a : Application) (v : Value) (b : Bool) → Some b ≡ as_boolean v → schema_outcome rules run a v ≡ boolean_outcome a b
at_boolean rules run a (boolean c) b e = let same : b ≡ c = cc in ap (boolean_outcome a) (sym same)
at_boolean rules run a null b e = absurd (cc)
at_boolean rules run a (integer z) b e = absurd (cc)
at_boolean rules run a (string s) b e = absurd (cc)
at_boolean rules run a (array vs) b e = absurd (cc)
at_boolean rules run a (object ms) b e = absurd (cc)

at_other : (rules : Rules) (run : Application → Outcome) (a : Application) (v : Value) → None ≡ as_boolean v → schema_outcome rules run a v ≡ object_outcome rules run a
at_other rules run a (boolean c) e = absurd (cc)
at_other rules run a null e = refl
at_other rules run a (integer z) e = refl
at_other rules run a (string s) e = refl
at_other rules run a (array vs) e = refl
at_other rules run a (object ms) e = refl

boolean_no_object : (v : Value) (b : Bool) → Some b ≡ as_boolean v → is_object v ≡ false
boolean_no_object (boolean c) b e = refl
boolean_no_object null b e = absurd (cc)
boolean_no_object (integer z) b e = absurd (cc)
boolean_no_object (string s) b e = absurd (cc)
boolean_no_object (array vs) b e = absurd (cc)
boolean_no_object (object ms) b e = absurd (cc)

-- a boolean schema is never being applied
not_running : (a : Application) (b : Bool) → Some b ≡ as_boolean a.schema.value → is_running a ≡ false
not_running a b e = rw (boolean_no_object a.schema.value b e) refl

pub outcome-deep-boolean : (rules : Rules) (n : ℕ) (a : Application) (b : Bool) → Some b ≡ as_boolean a.schema.value → n ≡ 0 → outcome rules n a ≡ leaf false true
outcome-deep-boolean rules n a b e z = outcome-zero rules n a (not_running a b e) z

pub outcome-boolean : (rules : Rules) (n : ℕ) (a : Application) (b : Bool) → Some b ≡ as_boolean a.schema.value → 0 < n → outcome rules n a ≡ boolean_outcome a b
outcome-boolean rules n a b e l = outcome-suc rules n a (not_running a b e) l ∙ at_boolean rules (outcome rules (n - 1)) a a.schema.value b e

pub outcome-object : (rules : Rules) (n : ℕ) (a : Application) → is_running a ≡ false → None ≡ as_boolean a.schema.value → 0 < n
    → outcome rules n a ≡ object_outcome rules (outcome rules (n - 1)) a
outcome-object rules n a r e l = outcome-suc rules n a r l ∙ at_other rules (outcome rules (n - 1)) a a.schema.value e

-- ---- boolean schemas
pub boolean_is : (rules : Rules) (n : ℕ) (a : Application) (b : Bool) → Some b ≡ as_boolean a.schema.value → boolean_at n a b ≡ outcome rules n a
boolean_is rules zero a b e = sym (outcome-deep-boolean rules 0 a b e refl)
boolean_is rules (suc n) a b e = sym (outcome-boolean rules (suc n) a b e (omega arith))

pub deep_boolean : (n : ℕ) (a : Application) (b : Bool) → n ≡ 0 → leaf false true ≡ boolean_at n a b
deep_boolean zero a b e = refl
deep_boolean (suc n) a b e = absurd (omega arith)

pub shallow_boolean : (n : ℕ) (a : Application) (b : Bool) → (n ≡ 0 → ⊥) → boolean_outcome a b ≡ boolean_at n a b
shallow_boolean zero a b h = absurd (h refl)
shallow_boolean (suc n) a b h = refl

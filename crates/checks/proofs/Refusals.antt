-- A schema that is accepted, and one that is refused.
use Rattle.std.proofs.Common.{◌≡◌, ◌<◌, Bool, true, false, ◌&&◌, cond, Option, Some, None, Result, Ok, Err, IfOk, OnOk, is_none, length, refl, sym, ap, ◌∙◌, arith}
use Rattle.std.proofs.lemmas.Bool.Decides.{nat_tests}
use Rattle.definitions.specs.Faults.{Fault, bad_pattern}
use Rattle.definitions.specs.Patterns.{regular_search}
use Rattle.definitions.specs.Searches.{is_regular, builds, has_patterns, patterns}
use Rattle.definitions.specs.Scanning.{scan_fault}
use Rattle.definitions.specs.Values.{Text, Value}
use Rattle.checks.specs.Judgements.{is_for_pattern, accepted_schema, builds_under, unless_fault}

-- what holds of a result by two clauses
pub both : {T E : Type 0} (r : Result T E) (P Q : T → Type 0) (B : Type 0) → ((x : T) → B → P x → Q x) → OnOk r B → IfOk r P → IfOk r Q
both (Ok x) P Q B f b p = f x b p
both (Err e) P Q B f b p = p

pub is_accepted : (base : Text) (v : Value) → scan_fault base v ≡ None → is_regular regular_search v ≡ true → accepted_schema base v ≡ Ok v
unfolding accepted_schema
is_accepted base v none regular =
    ap (λ o. unless_fault o (cond (is_regular regular_search v) (Ok v) (Err bad_pattern))) none ∙ ap (λ b. cond b (Ok v) (Err bad_pattern)) regular

refused_by : (v : Value) (o : Option Fault) (regular patterned : Bool) → o ≡ None → patterned ≡ true → (is_none o && (patterned && regular)) ≡ false
    → unless_fault o (cond regular (Ok v) (Err bad_pattern)) ≡ Err bad_pattern
refused_by v None true true e p h = cc
refused_by v None false true e p h = refl
refused_by v None true false e p h = cc
refused_by v None false false e p h = cc
refused_by v (Some f) regular patterned e p h = cc

patterned : (v : Value) → 0 < length (patterns v) → has_patterns v ≡ true
patterned v h = grind (arith, nat_tests, h)

-- where a pattern is refused that the grammar doesn't read
pub is_refused : (base : Text) (v : Value) (f : Fault) → scan_fault base v ≡ None → 0 < length (patterns v) → f ≡ bad_pattern
    → is_for_pattern f (builds_under (Ok base) (Ok v)) ≡ false → accepted_schema base v ≡ Err f
unfolding accepted_schema builds_under
is_refused base v f none some e h =
    refused_by v (scan_fault base v) (is_regular regular_search v) (has_patterns v) none (patterned v some)
    (ap (λ g. is_for_pattern g (builds regular_search (Ok base) (Ok v))) (sym e) ∙ h)
    ∙ ap Err (sym e)

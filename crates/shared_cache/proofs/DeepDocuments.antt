-- The scan refuses a document that nests too deep.
use Rattle.std.proofs.Common.{◌≡◌, ◌<◌, Bool, true, false, None, refl, sym, ◌∙◌, arith, nat_lt}
use Rattle.std.proofs.lemmas.Bool.Decides.{nat_tests}
use Rattle.std.proofs.lemmas.Option.{none-some}
use Rattle.definitions.specs.Scanning.{scan_fault}
use Rattle.definitions.specs.Values.{Text, Value, is_object, nesting}
use Rattle.schema_table.proofs.ScanFaults.{fault_of_value, fault_of_nesting}

refused_at : (b : Bool) (base : Text) (v : Value) → is_object v ≡ b → nat_lt 120 (nesting v) ≡ true → scan_fault base v ≡ None → ⊥
refused_at true base v object deep e = none-some _ (sym e ∙ fault_of_nesting base v object deep)
refused_at false base v object deep e = none-some _ (sym e ∙ fault_of_value base v object)

pub deep_is_refused : (base : Text) (v : Value) → 120 < nesting v → scan_fault base v ≡ None → ⊥
deep_is_refused base v h e = refused_at (is_object v) base v refl deep e
  where
    deep : nat_lt 120 (nesting v) ≡ true
    deep = grind (arith, nat_tests)

-- The schema that stands at a pointer: its value, its resource, and whether it is that resource's root.
use Rattle.std.proofs.Common.{◌≡◌, ℕ, suc, [], ◌∷◌, ◌++◌, length, Bool, false, ◌||◌, ◌==◌, Option, Some, None, is_some, codes, refl, sym, ap, ◌∙◌, arith}
use Rattle.std.proofs.Math.Bool.{or-false, or-true}
use Rattle.std.proofs.lemmas.Bool.Decides.{nat_tests}
use Rattle.definitions.specs.Values.{Text, Value, text_at}
use Rattle.definitions.specs.Pointers.{Pointer}
use Rattle.definitions.specs.Schemas.{opened_schema, schema_at, is_root}
use Rattle.definition_laws.proofs.Places.{value-opened}
use Rattle.schema_table.specs.Spots.{opened_uri, resource_of, opens_resource}

pub value-at : (base : Text) (p : Pointer) (v : Value) → (schema_at base p v).value ≡ v
value-at base p v = value-opened base p v (text_at (codes "$id") v)

resource-opened : (base : Text) (p : Pointer) (v : Value) (id : Option Text) → (opened_schema base p v id).resource ≡ opened_uri base id
resource-opened base p v None = refl
resource-opened base p v (Some id) = refl

pub resource-at : (base : Text) (p : Pointer) (v : Value) → (schema_at base p v).resource ≡ resource_of base v
unfolding resource_of
resource-at base p v = resource-opened base p v (text_at (codes "$id") v)

is_root-opened : (base : Text) (p : Pointer) (v : Value) (id : Option Text) → is_root (opened_schema base p v id) ≡ ((length p == 0) || is_some id)
is_root-opened base p v None = sym (or-false (length p == 0))
is_root-opened base p v (Some id) = sym (or-true (length p == 0))

pub is_root-at : (base : Text) (p : Pointer) (v : Value) (at_root : Bool) → (length p == 0) ≡ at_root → is_root (schema_at base p v) ≡ (at_root || opens_resource v)
unfolding opens_resource
is_root-at base p v at_root e = is_root-opened base p v (text_at (codes "$id") v) ∙ ap (λ b. b || is_some (text_at (codes "$id") v)) e

not_zero : (n : ℕ) → (suc n == 0) ≡ false
not_zero n = grind (arith, nat_tests)

pub not_empty : (p : Pointer) (t : Text) (ts : Pointer) → (length (p ++ t ∷ ts) == 0) ≡ false
not_empty [] t ts = not_zero (length ts)
not_empty (u ∷ p) t ts = not_zero (length (p ++ t ∷ ts))

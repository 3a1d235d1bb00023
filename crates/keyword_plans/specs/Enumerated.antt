-- The sorted values of an `enum`, and whose they are.
use Rattle.std.specs.Prelude.{◌≡◌, Some, Contains, codes}
use Rattle.definitions.specs.Assertions.{enum_of, holds}
use Rattle.definitions.specs.Pointers.{Pointer}
use Rattle.definitions.specs.Schemas.{Identity, Schema, identity}
use Rattle.definitions.specs.Values.{Text, Value, get}
use Rattle.linker.specs.LinkedDocuments.{linked_schemas}
use Rattle.linker.specs.declared.linked.Linked.{Linked}
use Rattle.locations.specs.Steps.{tokens}
use Rattle.value_order.specs.Searched.{has_value}
use Rattle.keyword_plans.specs.declared.enumerations.Enumeration.{Enumeration}

-- the identity of the schema
abbrev pub enumeration_identity : Enumeration → Identity
enumeration_identity e = (e.resource.now, tokens e.steps.items)

-- it is found among them exactly where the `enum` of the schema of that identity in these documents holds of it
abbrev pub IsEnumerated : Linked → Enumeration → Type 0
IsEnumerated l e =
    (s : Schema) (v x : Value) → Contains (linked_schemas l) s → identity s ≡ enumeration_identity e → get (codes "enum") s.value ≡ Some v → has_value e.values x ≡ holds enum_of v x

abbrev pub IsPlacedAt : Text → Pointer → Enumeration → Type 0
IsPlacedAt resource pointer e = enumeration_identity e ≡ (resource, pointer)

-- An assertion as the definitions have it.
use Rattle.std.specs.Prelude.{Option, Some, None}
use Rattle.definitions.specs.Assertions as meaning
use Rattle.definitions.specs.Keywords.{Meaning, asserts}
use Rattle.assertions.specs.declared.assertion.Assertion.{Assertion}
use Rattle.assertions.specs.declared.assertion.Assertion.TheVariants.{TypeIs, EnumOf, ConstIs, MultipleOf, Maximum, ExclusiveMaximum, Minimum, ExclusiveMinimum, MaxLength, MinLength, MaxProperties, MinProperties, Required, DependentRequired, MaxItems, MinItems, UniqueItems}

abbrev pub assertion_view : Assertion → meaning.Assertion
assertion_view TypeIs = meaning.type_is
assertion_view EnumOf = meaning.enum_of
assertion_view ConstIs = meaning.const_is
assertion_view MultipleOf = meaning.multiple_of
assertion_view Maximum = meaning.maximum
assertion_view ExclusiveMaximum = meaning.exclusive_maximum
assertion_view Minimum = meaning.minimum
assertion_view ExclusiveMinimum = meaning.exclusive_minimum
assertion_view MaxLength = meaning.max_length
assertion_view MinLength = meaning.min_length
assertion_view MaxProperties = meaning.max_properties
assertion_view MinProperties = meaning.min_properties
assertion_view Required = meaning.required
assertion_view DependentRequired = meaning.dependent_required
assertion_view MaxItems = meaning.max_items
assertion_view MinItems = meaning.min_items
assertion_view UniqueItems = meaning.unique_items

-- what a keyword of this meaning asserts, if it looks at its own value and the instance alone
abbrev pub assertion_in : Meaning → Option meaning.Assertion
assertion_in (asserts assertion) = Some assertion
assertion_in _ = None

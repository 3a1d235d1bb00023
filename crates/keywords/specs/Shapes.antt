-- A shape as the definitions have it.
use Rattle.std.specs.Prelude.{Bool}
use Rattle.definitions.specs.Values.{Value, is_string}
use Rattle.definitions.specs.Shapes as meaning
use Rattle.definitions.specs.Shapes.{has_shape, reference}
use Rattle.keywords.specs.declared.shape.Shape.{Shape}
use Rattle.keywords.specs.declared.shape.Shape.TheVariants.{AnyValue, Truth, WholeNumber, Size, Divisor, AnyText, ValueList, TextList, TextLists, TypeNames, Reference, OneSchema, SchemaList, SchemaMap, Identifier, AnchorName, Dialect}

abbrev pub shape_view : Shape → meaning.Shape
shape_view AnyValue = meaning.any_value
shape_view Truth = meaning.truth
shape_view WholeNumber = meaning.whole_number
shape_view Size = meaning.size
shape_view Divisor = meaning.divisor
shape_view AnyText = meaning.any_text
shape_view ValueList = meaning.value_list
shape_view TextList = meaning.text_list
shape_view TextLists = meaning.text_lists
shape_view TypeNames = meaning.type_names
shape_view Reference = meaning.reference
shape_view OneSchema = meaning.one_schema
shape_view SchemaList = meaning.schema_list
shape_view SchemaMap = meaning.schema_map
shape_view Identifier = meaning.identifier
shape_view AnchorName = meaning.anchor_name
shape_view Dialect = meaning.dialect

-- whether the value has the shape, but that a reference is only to be a text
abbrev pub fits_shape : meaning.Shape → Value → Bool
fits_shape reference v = is_string v
fits_shape shape v = has_shape shape v

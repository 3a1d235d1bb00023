-- What a value holds, where it is of the kind that is asked for.
use Rattle.std.specs.Prelude.{Bool, List, Option, Some, None}
use Rattle.definitions.specs.Values.{Text, Value, boolean, array, object, elements_list, members_list}

abbrev pub as_boolean : Value → Option Bool
as_boolean (boolean b) = Some b
as_boolean _ = None

abbrev pub as_elements : Value → Option (List Value)
as_elements (array vs) = Some (elements_list vs)
as_elements _ = None

abbrev pub as_members : Value → Option (List (Text × Value))
as_members (object ms) = Some (members_list ms)
as_members _ = None

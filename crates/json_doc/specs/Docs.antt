-- The JSON value that a `Doc` stands for, and the members that `Members` stand for.
use Rattle.std.specs.Prelude.{List, [], ◌∷◌, string_bytes}
use Rattle.definitions.specs.Values as json
use Rattle.definitions.specs.Values.{Text, Value, null, boolean, integer, string, array, object, no_members, member, members_list, to_elements}
use Rattle.json_doc.specs.declared.doc.Doc.{Doc, fold-Doc}
use Rattle.json_doc.specs.declared.members.Members.{Members, fold-Members}
use Rattle.json_doc.specs.declared.doc.Doc.TheOpen.{Doc-F, Members-F}
use Rattle.json_doc.specs.declared.small_text.SmallText.{SmallText}
use Rattle.json_doc.specs.SmallTexts.{short_text, text_view}

abbrev pub object_members : List (SmallText × Value) → json.Members
object_members [] = no_members
object_members (e ∷ es) = member (text_view e.0) e.1 (object_members es)

-- one level, with each value inside already seen
abbrev pub value_step : Doc-F Value json.Members → Value
value_step Doc-F.Null = null
value_step (Doc-F.Bool b) = boolean b
value_step (Doc-F.Int n) = integer n
value_step (Doc-F.Str s) = string (string_bytes s)
value_step (Doc-F.Short s) = string (short_text s)
value_step (Doc-F.List v) = array (to_elements v.items)
value_step (Doc-F.Dict m) = object m

abbrev pub members_step : Members-F Value json.Members → json.Members
members_step m = object_members m.entries

abbrev pub value : Doc → Value
value = fold-Doc Value json.Members value_step members_step

abbrev pub members_view : Members → json.Members
members_view = fold-Members Value json.Members value_step members_step

-- the members as pairs of a name and a value
abbrev pub members_value : Members → List (Text × Value)
members_value m = members_list (members_view m)

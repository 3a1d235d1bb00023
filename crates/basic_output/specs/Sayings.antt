-- What a unit says, as the value that is written.
use Rattle.std.specs.Prelude.{◌++◌, map, pos, codes, true}
use Rattle.definitions.specs.Values.{Value, boolean, integer, string, array, to_elements}
use Rattle.json_doc.specs.Docs.{value}
use Rattle.json_doc.specs.NamedMembers.{name_text}
use Rattle.keywords.specs.Rows.{row_of}
use Rattle.basic_output.specs.declared.says.Says.{Says}
use Rattle.basic_output.specs.declared.says.Says.TheVariants as says

abbrev pub says_value : Says → Value
says_value (says.NotMet k) = string ((row_of k).name ++ codes " is not met")
says_value says.NotAllowed = string (codes "no value is allowed")
says_value says.True = boolean true
says_value (says.Index index) = integer (pos index)
says_value (says.Names names) = array (to_elements (map string (map name_text names.now)))
says_value (says.Indexes indexes) = array (to_elements (map (λ index. integer (pos index)) indexes.now))
says_value (says.Value doc) = value doc.now

-- Members that are gathered from a text.
use Rattle.std.specs.Prelude.{List, map}
use Rattle.definitions.specs.Values.{Text, Value}
use Rattle.json_doc.specs.Members.{member_value}
use Rattle.json_doc.specs.declared.gathered.Gathered.{Gathered}
use Rattle.json_doc.specs.declared.gathered.Gathered.TheVariants.{Few, Many}

-- the members so far
abbrev pub gathered_view : Gathered → List (Text × Value)
gathered_view (Few m) = map member_value m
gathered_view (Many m) = map member_value m.entries

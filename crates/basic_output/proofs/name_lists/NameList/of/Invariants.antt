use Rattle.std.proofs.Common.{◌≡◌, map, take}
use Rattle.json_doc.specs.NamedMembers.{name_text}
use Rattle.json_doc.specs.SmallTexts.{short_text}
use Rattle.basic_output.proofs.name_lists.NameList.of.Given as goal

abbrev pub invariant-loop-name : goal.invariant-loop-name
invariant-loop-name l = map short_text l.short.items ≡ map name_text (take l.name-index l.names)

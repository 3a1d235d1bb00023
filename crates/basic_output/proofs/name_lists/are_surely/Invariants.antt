use Rattle.std.proofs.Common.{◌≡◌, map, take}
use Rattle.json_doc.specs.NamedMembers.{name_text}
use Rattle.json_doc.specs.SmallTexts.{short_text}
use Rattle.basic_output.proofs.name_lists.are_surely.Given as goal

abbrev pub invariant-loop-at : goal.invariant-loop-at
invariant-loop-at l = map name_text (take l.at l.names) ≡ map short_text (take l.at l.short)

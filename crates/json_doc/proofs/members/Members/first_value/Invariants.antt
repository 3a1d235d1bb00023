use Rattle.std.proofs.Common.{◌≡◌}
use Rattle.definitions.specs.Values.{entry}
use Rattle.json_doc.specs.Docs.{members_value}
use Rattle.json_doc.specs.NamedMembers.{named_left}
use Rattle.keywords.specs.Rows.{row_of}
use Rattle.json_doc.proofs.members.Members.first_value.Given as goal

-- the first of this name stands among those that are left
abbrev pub invariant-loop-name : goal.invariant-loop-name
invariant-loop-name l = entry (row_of l.keyword).name (named_left l.name-iterator) ≡ entry (row_of l.keyword).name (members_value l.self)

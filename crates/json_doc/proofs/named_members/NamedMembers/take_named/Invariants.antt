use Rattle.std.proofs.Common.{length}
use Rattle.std.specs.Slice.Iter.{iter_rest}
use Rattle.json_doc.specs.Members.{HasNamesInOrder}
use Rattle.json_doc.specs.NamedMembers.{name_text, named_left}
use Rattle.json_doc.proofs.NamesInOrder.{AreLeft}
use Rattle.json_doc.proofs.named_members.NamedMembers.take_named.Given as goal

-- of members in order, those that aren't below the name are left
abbrev pub invariant-names : goal.invariant-names
invariant-names l = HasNamesInOrder (named_left l.initial.self) → AreLeft (name_text l.name) (named_left l.initial.self) (named_left l.self)

abbrev pub decreases-names : goal.decreases-names
decreases-names l = length (iter_rest l.self.members.entries)

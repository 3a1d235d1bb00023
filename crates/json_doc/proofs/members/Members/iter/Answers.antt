use Rattle.std.proofs.Common.{map, sym, ap, ◌∙◌}
use Rattle.json_doc.specs.Members.{member_value}
use Rattle.json_doc.proofs.Views.{members_value-out}
use Rattle.json_doc.proofs.Entries.{names_in_order, texts_as_names}
use Rattle.json_doc.proofs.members.Members.iter.Goals as goal

pub returns-clause-all : goal.returns-clause-all
returns-clause-all c = c.of.ensures ∙ ap (map member_value) c.as_slice.ensures.all ∙ sym (members_value-out c.args.self.now)

pub returns-clause-ordered : goal.returns-clause-ordered
returns-clause-ordered c = rw members_value-out (names_in_order c.args.self.now.entries c.as_slice.ensures.ordered)

pub returns-clause-utf8 : goal.returns-clause-utf8
returns-clause-utf8 c = rw members_value-out (texts_as_names c.args.self.now.entries)

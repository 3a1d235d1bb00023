use Rattle.std.proofs.Common.{sym, ap, ◌∙◌}
use Rattle.json_doc.specs.Docs.{value}
use Rattle.json_doc.specs.Members.{members_with}
use Rattle.json_doc.proofs.Views.{members_value-out, members_value-roll}
use Rattle.json_doc.proofs.Entries.{put_members}
use Rattle.json_doc.proofs.members.Members.insert_named.Goals as goal

pub returns-clause-ok : goal.returns-clause-ok
returns-clause-ok c =
    members_value-roll (record { entries = c.insert_named.new.self })
    ∙ put_members c.args.name.now c.args.member c.args.self.now.entries c.insert_named.new.self c.in_ok-insert_named.ensures.ok
    ∙ ap (members_with c.args.name.now (value c.args.member)) (sym (members_value-out c.args.self.now))

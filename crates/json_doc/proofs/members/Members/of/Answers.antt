use Rattle.json_doc.proofs.Views.{members_value-roll}
use Rattle.json_doc.proofs.members.Members.of.Goals as goal

pub returns : goal.returns
returns c = members_value-roll (record { entries = c.args.entries })

use Rattle.std.proofs.Common.{length, sym, ap, ◌∙◌}
use Rattle.std.proofs.lemmas.List.{length-map}
use Rattle.json_doc.specs.Members.{member_value}
use Rattle.json_doc.proofs.Views.{members_value-out}
use Rattle.json_doc.proofs.members.Members.len.Goals as goal

pub returns : goal.returns
returns c =
    c.len.ensures ∙ sym (ap length (members_value-out c.args.self.now) ∙ length-map c.args.self.now.entries member_value)

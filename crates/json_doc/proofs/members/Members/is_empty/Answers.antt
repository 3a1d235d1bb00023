use Rattle.std.proofs.Common.{map, ap, sym, ◌∙◌}
use Rattle.std.proofs.lemmas.List.{nil_from_length}
use Rattle.json_doc.specs.Members.{member_value}
use Rattle.json_doc.proofs.Views.{members_value-out}
use Rattle.json_doc.proofs.Entries.{none_are_left}
use Rattle.json_doc.proofs.members.Members.is_empty.Goals as goal

pub returns : goal.returns
returns c =
    let es = c.args.self.now.entries in (
      λ t. members_value-out c.args.self.now ∙ ap (map member_value) (c.is_empty.ensures.0 t),
      λ e. c.is_empty.ensures.1 (nil_from_length es (none_are_left member_value es (sym (members_value-out c.args.self.now) ∙ e))),
    )

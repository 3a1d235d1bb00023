use Rattle.std.proofs.Common.{option_map, sym, ap, ◌∙◌}
use Rattle.definitions.specs.Values.{Text, Value, entry}
use Rattle.json_doc.specs.SmallTexts.{short_text}
use Rattle.json_doc.proofs.Views.{members_value-out}
use Rattle.json_doc.proofs.Entries.{on_value, value_found}
use Rattle.json_doc.proofs.members.Members.get_short.Goals as goal

pub returns-in-Some : goal.returns-in-Some
returns-in-Some c =
    ap (λ o. option_map (λ (p : Text × Value). p.1) (option_map on_value o)) c.in-Some.ensures
    ∙ value_found (short_text c.args.name.now) c.args.self.now.entries ∙ ap (entry (short_text c.args.name.now)) (sym (members_value-out c.args.self.now))

pub returns-in-None : goal.returns-in-None
returns-in-None c =
    ap (λ o. option_map (λ (p : Text × Value). p.1) (option_map on_value o)) c.in-None.ensures
    ∙ value_found (short_text c.args.name.now) c.args.self.now.entries ∙ ap (entry (short_text c.args.name.now)) (sym (members_value-out c.args.self.now))

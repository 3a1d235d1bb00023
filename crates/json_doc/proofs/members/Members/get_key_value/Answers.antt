use Rattle.std.proofs.Common.{Some, option_map, ap, ◌∙◌}
use Rattle.definitions.specs.Values.{Text}
use Rattle.json_doc.specs.Docs.{value}
use Rattle.json_doc.proofs.Views.{members_value-out}
use Rattle.json_doc.proofs.Entries.{names_in_order, on_value, entry_found}
use Rattle.json_doc.proofs.members.Members.get_key_value.Goals as goal

pub returns-in-None-clause-found : goal.returns-in-None-clause-found
returns-in-None-clause-found c = rw members_value-out (ap (option_map on_value) c.in-None.ensures ∙ entry_found c.args.name.now c.args.self.now.entries)

pub returns-in-None-clause-ordered : goal.returns-in-None-clause-ordered
returns-in-None-clause-ordered c = rw members_value-out (names_in_order c.args.self.now.entries c.as_slice.ensures.ordered)

pub returns-in-Some-clause-found : goal.returns-in-Some-clause-found
returns-in-Some-clause-found c =
    rw members_value-out
    (ap (λ (name : Text). Some (name, value c.in-Some.field-0.now.1)) c.as_str.ensures ∙ ap (option_map on_value) c.in-Some.ensures ∙ entry_found c.args.name.now c.args.self.now.entries)

pub returns-in-Some-clause-ordered : goal.returns-in-Some-clause-ordered
returns-in-Some-clause-ordered c = rw members_value-out (names_in_order c.args.self.now.entries c.as_slice.ensures.ordered)

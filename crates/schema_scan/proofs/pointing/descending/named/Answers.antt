use Rattle.std.proofs.Common.{sym, ◌∙◌}
use Rattle.json_doc.specs.Docs.{members_value}
use Rattle.schema_scan.proofs.Descents.{row-entry}
use Rattle.schema_scan.proofs.pointing.descending.named.Goals as goal

pub returns-clause-found : goal.returns-clause-found
returns-clause-found c = c.get_key_value.ensures.found ∙ sym (row-entry c.args.name.now (members_value c.args.members.now))

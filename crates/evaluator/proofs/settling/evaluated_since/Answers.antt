use Rattle.std.proofs.Common.{◌∙◌, ap, sym, map}
use Rattle.std.proofs.lemmas.List.{drop-map}
use Rattle.json_doc.specs.NamedMembers.{name_text}
use Rattle.evaluator.proofs.settling.evaluated_since.Goals as goal

pub returns-clause-names : goal.returns-clause-names
returns-clause-names c = ap (map name_text) c.since.ensures ∙ sym (drop-map name_text c.args.before.names c.args.names.now)

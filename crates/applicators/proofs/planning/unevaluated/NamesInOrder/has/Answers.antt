use Rattle.std.proofs.Common.{◌∙◌, sym}
use Rattle.json_doc.specs.NamedMembers.{name_text}
use Rattle.applicators.proofs.Seen.{has-at}
use Rattle.applicators.proofs.planning.unevaluated.NamesInOrder.has.Goals as goal

pub returns-then-is_same-clause-has : goal.returns-then-is_same-clause-has
returns-then-is_same-clause-has c =
    sym (has-at (name_text c.args.name) c.args.self.now.names.now c.args.self.now.passed _ c.if-self.true (sym c.is_same.ensures ∙ c.if-is_same.true))

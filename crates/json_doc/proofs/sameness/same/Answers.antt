use Rattle.std.proofs.Common.{◌∙◌, sym}
use Rattle.json_doc.specs.Docs.{value}
use Rattle.json_doc.proofs.Equality.{same-Decides}
use Rattle.json_doc.proofs.sameness.same.Goals as goal

pub returns-clause-equal : goal.returns-clause-equal
returns-clause-equal c =
    let decides = same-Decides (value c.args.first.now) (value c.args.second.now) in
    (λ t. decides.0 (sym c.are_same.ensures ∙ t), λ e. c.are_same.ensures ∙ decides.1 e)

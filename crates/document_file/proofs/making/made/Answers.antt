use Rattle.std.proofs.Common.{ap, arith, ◌∙◌}
use Rattle.document_file.proofs.Found.{undoubted}
use Rattle.document_file.proofs.making.made.Goals as goal

pub returns-in-Ok-with_version-clause-empty : goal.returns-in-Ok-with_version-clause-empty
returns-in-Ok-with_version-clause-empty g c clean =
    let old = c.in-Ok-with_version.ensures.clean clean in
    c.in-Ok-with_version.ensures.rows clean ∙ ap (λ f. f 0) c.in-Ok.ensures.ready.clean ∙ c.in-Ok.ensures.empty (undoubted _ old) 0 (omega arith)

pub returns-in-Ok-with_version-clause-honest : goal.returns-in-Ok-with_version-clause-honest
returns-in-Ok-with_version-clause-honest g c clean = c.in-Ok.ensures.honest (undoubted _ (c.in-Ok-with_version.ensures.clean clean))

use Rattle.std.proofs.Common.{◌∷◌, [], codes}
use Rattle.schemareg.proofs.checking.check_input.Goals as goal

pub returns-in-Ok-clause-reading : goal.returns-in-Ok-clause-reading
returns-in-Ok-clause-reading g c = c.check_text.ensures.reading (codes "-" ∷ [])

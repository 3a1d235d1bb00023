use Rattle.std.proofs.Common.{◌∷◌, []}
use Rattle.schemareg.proofs.checking.check_file.Goals as goal

pub returns-in-Ok-clause-reading : goal.returns-in-Ok-clause-reading
returns-in-Ok-clause-reading g c = c.check_texts.ensures.reading (c.args.instance.now ∷ [])

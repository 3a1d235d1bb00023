use Rattle.file_forms.proofs.Going.{stays}
use Rattle.file_forms.proofs.ReadLines.{no_line}
use Rattle.file_forms.proofs.run.Run.check_line.Goals as goal

pub returns-then-is_blank : goal.returns-then-is_blank
returns-then-is_blank g c = stays _ _ (no_line c.args.path.now c.args.number c.args.line.now c.is_blank.result c.is_blank.ensures c.if-is_blank.true)

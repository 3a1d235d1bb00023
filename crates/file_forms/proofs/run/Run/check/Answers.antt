use Rattle.file_checks.specs.FileSources.{checker_linked}
use Rattle.file_forms.proofs.Accounted.{checked}
use Rattle.file_forms.proofs.Going.{goes}
use Rattle.file_forms.proofs.run.Run.check.Goals as goal

pub returns : goal.returns
returns g c =
    let instance = c.args.instance in
    goes _ _ _
    (checked (checker_linked c.args.checker.now) c.args.self.now.printing instance.path.now instance.line instance.text.now c.answer-answered.result _ _
    c.answer-answered.ensures.judged c.tell.ensures.told)
    c.answer-answered.ensures.linked c.tell.ensures.printing

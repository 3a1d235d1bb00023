use Rattle.file_checks.specs.FileSources.{checker_linked}
use Rattle.file_forms.specs.Stages.{GoesOver, stage_of}
use Rattle.file_forms.proofs.ReadLines.{AreRead}
use Rattle.file_forms.proofs.run.Run.check_each_line.Given as goal

abbrev pub invariant-loop-index : goal.invariant-loop-index
invariant-loop-index g l =
    GoesOver (AreRead l.path (g.B.Read.remaining l.fn.reader) (g.B.Read.remaining l.reader) l.index)
    (stage_of l.fn.self (checker_linked l.fn.checker) (g.C.Console.printed l.fn.console) (g.C.Console.told l.fn.console))
    (stage_of l.self (checker_linked l.checker) (g.C.Console.printed l.console) (g.C.Console.told l.console))

use Rattle.std.proofs.Common.{take}
use Rattle.file_checks.specs.FileSources.{checker_linked}
use Rattle.file_forms.specs.Stages.{GoesOver, stage_of}
use Rattle.file_forms.specs.Subjects.{OfEach, OfFile}
use Rattle.file_forms.proofs.Going.{texts}
use Rattle.file_forms.proofs.run.Run.check_files.Given as goal

abbrev pub invariant-loop-path : goal.invariant-loop-path
invariant-loop-path g l =
    GoesOver (OfEach (OfFile (g.F.Folders.holds l.files) l.lines) (texts (take l.path-index l.paths)))
    (stage_of l.fn.self (checker_linked l.fn.checker) (g.C.Console.printed l.fn.console) (g.C.Console.told l.fn.console))
    (stage_of l.self (checker_linked l.checker) (g.C.Console.printed l.console) (g.C.Console.told l.console))

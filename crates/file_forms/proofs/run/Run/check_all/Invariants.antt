use Rattle.std.proofs.Common.{map, take}
use Rattle.file_checks.specs.FileSources.{checker_linked}
use Rattle.file_forms.specs.Stages.{GoesOver, stage_of}
use Rattle.file_forms.specs.Subjects.{OfArguments}
use Rattle.file_forms.proofs.run.Run.check_all.Given as goal

abbrev pub invariant-loop-path : goal.invariant-loop-path
invariant-loop-path g l =
    GoesOver (OfArguments (g.F.Folders.holds l.files) (g.F.Folders.lists l.files) l.checks.lines (map (λ p. p.now) (take l.path-index l.path-items))
    (g.I.Read.remaining l.fn.input) (g.I.Read.remaining l.input))
    (stage_of l.fn.self (checker_linked l.fn.checker) (g.C.Console.printed l.fn.console) (g.C.Console.told l.fn.console))
    (stage_of l.self (checker_linked l.checker) (g.C.Console.printed l.console) (g.C.Console.told l.console))

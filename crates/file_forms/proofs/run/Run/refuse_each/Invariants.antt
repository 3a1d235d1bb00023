use Rattle.std.proofs.Common.{map, take}
use Rattle.file_forms.specs.Stages.{GoesOver, stage_of}
use Rattle.file_forms.specs.Subjects.{Are, unread}
use Rattle.file_forms.proofs.Going.{texts}
use Rattle.linker.specs.declared.linked.Linked.{Linked}
use Rattle.file_forms.proofs.run.Run.refuse_each.Given as goal

abbrev pub invariant-loop-folder : goal.invariant-loop-folder
invariant-loop-folder g l =
    (linked : Linked) → GoesOver (Are (map unread (texts (take l.folder-index l.folders))))
    (stage_of l.fn.self linked (g.C.Console.printed l.fn.console) (g.C.Console.told l.fn.console))
    (stage_of l.self linked (g.C.Console.printed l.console) (g.C.Console.told l.console))

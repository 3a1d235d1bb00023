use Rattle.std.proofs.Common.{◌≡◌}
use Rattle.file_forms.specs.Gathered.{IsUnreadFolder}
use Rattle.file_forms.specs.Told.{ToldUnless}
use Rattle.file_forms.proofs.gathering.tell_unread.Given as goal

abbrev pub invariant-loop-folder : goal.invariant-loop-folder
invariant-loop-folder g l = record {
  told : ToldUnless IsUnreadFolder l.all (g.C.Console.told l.fn.console) (g.C.Console.told l.console);
  printed : g.C.Console.printed l.console ≡ g.C.Console.printed l.fn.console;
}

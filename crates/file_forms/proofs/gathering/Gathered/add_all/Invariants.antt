use Rattle.std.proofs.Common.{◌≡◌, true, map, take}
use Rattle.file_forms.specs.Gathered.{PathsAreGathered, IsPathTrouble}
use Rattle.file_forms.specs.Roots.{folder_of, gathering_of}
use Rattle.file_forms.specs.Told.{ToldUnless}
use Rattle.file_forms.proofs.gathering.Gathered.add_all.Given as goal

abbrev pub invariant-loop-path : goal.invariant-loop-path
invariant-loop-path g l = record {
  gathered : l.all ≡ true → PathsAreGathered (g.F.Folders.holds l.files) (g.F.Folders.lists l.files) (folder_of l.fn.self) (map (λ p. p.now) (take l.path-index l.paths))
      (gathering_of l.fn.self) (gathering_of l.self);
  told : ToldUnless (IsPathTrouble (g.F.Folders.holds l.files) (folder_of l.fn.self)) l.all (g.C.Console.told l.fn.console) (g.C.Console.told l.console);
  folder : folder_of l.self ≡ folder_of l.fn.self;
  printed : g.C.Console.printed l.console ≡ g.C.Console.printed l.fn.console;
}

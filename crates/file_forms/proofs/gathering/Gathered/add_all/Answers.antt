use Rattle.std.proofs.Common.{◌∙◌, refl, subst}
use Rattle.std.proofs.lemmas.List.{take_all}
use Rattle.file_forms.specs.Gathered.{IsPathTrouble, PathsAreGathered}
use Rattle.file_forms.specs.Roots.{folder_of, gathering_of}
use Rattle.file_forms.proofs.Gathers.{path_more, told_in}
use Rattle.file_forms.proofs.Going.{names}
use Rattle.file_forms.proofs.Telling.{both_unless}
use Rattle.file_forms.proofs.Turns.{both_first, both_second}
use Rattle.file_forms.proofs.gathering.Gathered.add_all.Goals as goal

pub loop-path-init : goal.loop-path-init
loop-path-init g c = record { gathered = λ e. refl; told = refl; folder = refl; printed = refl }

pub loop-path-preserved : goal.loop-path-preserved
loop-path-preserved g c =
    let holds = g.F.Folders.holds c.args.files.now in
    let lists = g.F.Folders.lists c.args.files.now in
    let before = c.loop-path.invariant in
    let added = c.add_path-added in
    record {
      gathered = λ e.
          path_more holds lists (folder_of c.args.self.now) (folder_of c.loop-path.self) c.args.paths.now c.loop-path.path-index _ (gathering_of c.args.self.now) (gathering_of c.loop-path.self)
          (gathering_of added.new.self) c.loop-path-test.true before.folder (before.gathered (both_first c.loop-path.all added.result e))
          (added.ensures.gathered (both_second c.loop-path.all added.result e));
      told = both_unless (IsPathTrouble holds (folder_of c.args.self.now)) c.loop-path.all added.result _ _ _ before.told
          (told_in holds (folder_of c.args.self.now) (folder_of c.loop-path.self) added.result _ _ before.folder added.ensures.told);
      folder = added.ensures.folder ∙ before.folder;
      printed = added.ensures.printed ∙ before.printed;
    }

pub returns-clause-gathered : goal.returns-clause-gathered
returns-clause-gathered g c = λ e.
    subst
    (λ ps. PathsAreGathered (g.F.Folders.holds c.args.files.now) (g.F.Folders.lists c.args.files.now) (folder_of c.args.self.now) (names ps) (gathering_of c.args.self.now) (gathering_of c.loop-path.self))
    (take_all c.loop-path.path-index c.args.paths.now c.loop-path-test.false) (c.loop-path.invariant.gathered e)

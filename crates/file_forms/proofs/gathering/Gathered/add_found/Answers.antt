use Rattle.std.proofs.Common.{inl, subst}
use Rattle.file_forms.specs.Gathered.{FilesAreGathered, IsPathTrouble, IsUnreadFolder}
use Rattle.file_forms.specs.Roots.{folder_of, gathering_of}
use Rattle.file_forms.proofs.Going.{texts}
use Rattle.file_forms.proofs.Telling.{both_unless, other_unless}
use Rattle.file_forms.proofs.Turns.{both_second}
use Rattle.file_forms.proofs.gathering.Gathered.add_found.Goals as goal

pub returns-clause-gathered : goal.returns-clause-gathered
returns-clause-gathered g c = λ e.
    subst (λ fs. FilesAreGathered (g.F.Folders.holds c.args.files.now) (folder_of c.args.self.now) (texts fs) (gathering_of c.args.self.now) (gathering_of c.add_files-added.new.self))
    c.as_slice-2.ensures.value (c.add_files-added.ensures.gathered (both_second c.tell_unread-read.result c.add_files-added.result e))

pub returns-clause-told : goal.returns-clause-told
returns-clause-told g c =
    let Is = IsPathTrouble (g.F.Folders.holds c.args.files.now) (folder_of c.args.self.now) in
    both_unless Is c.tell_unread-read.result c.add_files-added.result _ _ _
    (other_unless IsUnreadFolder Is c.tell_unread-read.result _ _ (λ trouble u. (u.0, inl u.1)) c.tell_unread-read.ensures.told) c.add_files-added.ensures.told

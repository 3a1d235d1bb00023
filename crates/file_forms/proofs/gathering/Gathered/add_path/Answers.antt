use Rattle.std.proofs.Common.{inl, inr}
use Rattle.file_forms.specs.Gathered.{IsPathTrouble}
use Rattle.file_forms.specs.Roots.{folder_of}
use Rattle.file_forms.proofs.Going.{texts}
use Rattle.file_forms.proofs.Telling.{one_told}
use Rattle.file_forms.proofs.gathering.Gathered.add_path.Goals as goal

pub returns-in-Ok-clause-gathered : goal.returns-in-Ok-clause-gathered
returns-in-Ok-clause-gathered g c = λ e. record { files = texts c.in-Ok.found.files.items; listed = c.in-Ok.ensures.ok; gathered = c.add_found.ensures.gathered e }

pub returns-in-Err-clause-told : goal.returns-in-Err-clause-told
returns-in-Err-clause-told g c =
    one_told (IsPathTrouble (g.F.Folders.holds c.args.files.now) (folder_of c.args.self.now)) c.in-Err.trouble _ _ (c.args.path.now, inl c.in-Err.ensures.err) c.tell.ensures.told

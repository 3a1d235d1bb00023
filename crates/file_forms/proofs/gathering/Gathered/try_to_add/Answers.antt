use Rattle.std.proofs.Common.{option_map}
use Rattle.schema_scan.specs.CompiledDocuments.{compiled_view}
use Rattle.file_forms.specs.Gathered.{IsPathTrouble}
use Rattle.file_forms.specs.Roots.{folder_of}
use Rattle.file_forms.proofs.Telling.{one_told}
use Rattle.file_forms.proofs.gathering.Gathered.try_to_add.Goals as goal

pub returns-in-Ok-clause-gathered : goal.returns-in-Ok-clause-gathered
returns-in-Ok-clause-gathered g c = λ e. (option_map (λ d. compiled_view d.value) c.in-Ok.field-0, c.in-Ok.ensures.ok)

pub returns-clause-told : goal.returns-clause-told
returns-clause-told g c =
    one_told (IsPathTrouble (g.F.Folders.holds c.args.files.now) (folder_of c.args.self.now)) c.in-Err.trouble _ _ (c.args.path.now, c.in-Err.ensures.err) c.tell.ensures.told

use Rattle.file_forms.proofs.Unknown.{whatever}
use Rattle.file_forms.proofs.system_folders.SystemFoldersFolders.open.Goals as goal

pub returns-in-Ok-clause-ok : goal.returns-in-Ok-clause-ok
returns-in-Ok-clause-ok g c = whatever _ _ (λ x. tt)

use Rattle.schemareg.proofs.Carried.{of_file}
use Rattle.schemareg.proofs.folders.check.Goals as goal

pub returns-else-is_folder-clause-order : goal.returns-else-is_folder-clause-order
returns-else-is_folder-clause-order g c =
    of_file (g.F.Texts.text_at c.args.files.now) (g.F.Texts.is_unreadable c.args.files.now) (g.F.Texts.folder_at c.args.files.now) c.args.named.instance.now _ _
    c.if-is_folder.ensures.known (c.check_files.ensures.order, tt)

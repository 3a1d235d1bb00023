use Rattle.file_forms.proofs.Troubles.{no_room_unwritten}
use Rattle.file_forms.proofs.trouble.Trouble.cannot_write.Goals as goal

pub returns-in-Err : goal.returns-in-Err
returns-in-Err c = no_room_unwritten c.args.path.now c.no_room.result c.no_room.ensures

use Rattle.file_forms.proofs.Troubles.{no_room_unread}
use Rattle.file_forms.proofs.trouble.Trouble.cannot_read.Goals as goal

pub returns-in-Err : goal.returns-in-Err
returns-in-Err c = no_room_unread c.args.name.now c.no_room.result c.no_room.ensures

use Rattle.file_forms.proofs.Troubles.{no_room_refusal}
use Rattle.file_forms.proofs.trouble.Trouble.refused.Goals as goal

pub returns-in-Err : goal.returns-in-Err
returns-in-Err c = no_room_refusal c.args.path.now c.args.line c.args.fault c.no_room.result c.no_room.ensures

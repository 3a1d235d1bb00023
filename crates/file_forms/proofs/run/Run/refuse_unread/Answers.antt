use Rattle.file_forms.proofs.Accounted.{unreadable}
use Rattle.file_forms.proofs.Going.{goes}
use Rattle.std.proofs.Common.{refl}
use Rattle.file_forms.proofs.run.Run.refuse_unread.Goals as goal

pub returns : goal.returns
returns g c = λ linked is. goes _ _ _ (unreadable linked c.args.self.now.printing c.args.path.now c.args.trouble _ _ is c.refuse.ensures.told) refl c.refuse.ensures.printing

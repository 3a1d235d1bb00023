use Rattle.std.proofs.Common.{map, refl, ap}
use Rattle.json_doc.specs.NamedMembers.{name_text}
use Rattle.evaluation_log.specs.Logs.{log_view}
use Rattle.evaluation_log.proofs.LogLaws.{same_notes}
use Rattle.evaluation_log.proofs.log.Log.clear.Goals as goal

pub returns : goal.returns
unfolding log_view
returns c = same_notes c.clear.ensures.errors c.clear.ensures.annotations (ap (map name_text) c.clear-2.ensures.items) c.clear-3.ensures.items refl

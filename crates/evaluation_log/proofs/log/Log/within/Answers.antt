use Rattle.std.proofs.Common.{ap, map, refl}
use Rattle.json_doc.specs.NamedMembers.{name_text}
use Rattle.evaluation_log.specs.Logs.{log_view}
use Rattle.evaluation_log.proofs.LogLaws.{same_notes}
use Rattle.evaluation_log.proofs.log.Log.within.Goals as goal

pub returns : goal.returns
unfolding log_view
returns c = same_notes c.in_ok-units.ensures.errors c.in_ok-units.ensures.annotations (ap (map name_text) c.new.ensures.items) c.args.memory.no_indexes refl

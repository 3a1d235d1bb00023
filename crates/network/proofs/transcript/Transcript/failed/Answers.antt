use Rattle.std.proofs.Common.{ap, ◌∙◌}
use Rattle.network.specs.Transcripts.{moves_in}
use Rattle.network.proofs.Transcripts.{one_failed}
use Rattle.network.proofs.transcript.Transcript.failed.Goals as goal

pub returns-clause-moves : goal.returns-clause-moves
returns-clause-moves c = ap moves_in c.then.ensures ∙ one_failed c.args.self.now.calls

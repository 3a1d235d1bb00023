use Rattle.std.proofs.Common.{ap, ◌∙◌}
use Rattle.network.specs.Transcripts.{moves_in}
use Rattle.network.proofs.Transcripts.{one_moved}
use Rattle.network.proofs.transcript.Transcript.moved.Goals as goal

pub returns-clause-moves : goal.returns-clause-moves
returns-clause-moves c = ap moves_in c.then.ensures ∙ one_moved c.args.self.now.calls (c.args.id, c.args.bytes.now)

use Rattle.std.specs.Prelude.{map}
use Rattle.std.proofs.Common.{ap, ◌∙◌}
use Rattle.std.proofs.lemmas.List.{map-append}
use Rattle.network.specs.Transcripts.{moves_of}
use Rattle.network.proofs.transcript.Transcript.named.Goals as goal

pub returns : goal.returns
returns c = ap (map (λ m. m.0)) c.moved.ensures.moves ∙ map-append (λ m. m.0) (moves_of c.args.self.now) _

use Rattle.std.proofs.Common.{ap₂, sym}
use Rattle.definitions.specs.Values.{Text}
use Rattle.std.specs.Prelude.{Bool}
use Rattle.output_texts.specs.Outputs.{output_view}
use Rattle.output_texts.proofs.OutputTexts.{output_is}
use Rattle.output_texts.proofs.output.Output.new.Goals as goal

pub returns : goal.returns
unfolding output_view
returns c = λ o judged same. ap₂ (λ (b : Bool) (t : Text). (b, t)) (sym judged) (output_is o _ _ judged same)

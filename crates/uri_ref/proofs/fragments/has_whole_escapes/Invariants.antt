use Rattle.std.proofs.Common.{◌≡◌, length, is_some}
use Rattle.definitions.specs.Fragments.{percent_decoded_text}
use Rattle.uri_ref.proofs.fragments.has_whole_escapes.Given as goal

abbrev pub invariant-loop-rest : goal.invariant-loop-rest
invariant-loop-rest l = is_some (percent_decoded_text l.rest) ≡ is_some (percent_decoded_text l.fn.text)

abbrev pub decreases-loop-rest : goal.decreases-loop-rest
decreases-loop-rest l = length l.rest

use Rattle.std.proofs.Common.{◌*◌, ap, ◌∙◌}
use Rattle.hex.proofs.HexLemmas.{length-encode_with}
use Rattle.hex.specs.Hex.{lower_digits}
use Rattle.sha2.proofs.Facts256.{length-sha256}
use Rattle.sha2.specs.Sha256.{sha256}
use Rattle.stored_rows.specs.Rows.{digest}
use Rattle.stored_rows.proofs.laws.digests_have_one_length.Goals as goal

pub returns : goal.returns
unfolding digest
returns c key = length-encode_with lower_digits (sha256 key) ∙ ap (λ n. 2 * n) (length-sha256 key)

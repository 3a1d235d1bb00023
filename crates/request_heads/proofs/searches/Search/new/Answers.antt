use Rattle.std.proofs.Common.{refl, arith}
use Rattle.http_laws.proofs.HeadEnds.{printed_head_has_bytes}
use Rattle.request_heads.proofs.searches.Search.new.Goals as goal

pub returns-clause-searched : goal.returns-clause-searched
returns-clause-searched c bytes =
    record { within = omega arith; short = omega arith; feeds = refl; few = omega arith; past = λ h more reads. printed_head_has_bytes h }

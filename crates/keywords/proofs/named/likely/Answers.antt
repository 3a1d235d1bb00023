use Rattle.keywords.proofs.Likely.{likely_there}
use Rattle.keywords.proofs.named.likely.Goals as goal

pub returns : goal.returns
returns c k e = rw (c.saturating_sub.ensures, c.as_bytes-bytes.ensures.value, e) (likely_there k)

use Rattle.std.proofs.Common.{rules}
use Rattle.httparse.specs.Grammar.{trim_ows}
use Rattle.request_heads.proofs.names.is_close.Goals as goal

pub returns : goal.returns
unfolding trim_ows
returns c = search rules

use Rattle.std.proofs.Common.{lit<}
use Rattle.std.proofs.lemmas.Str.Pattern.{rfind_char}
use Rattle.uri_ref.proofs.splitting.last_slash.Goals as goal

pub returns : goal.returns
returns c = rfind_char 47 c.args.text.now c.rfind.result c.rfind.ensures.cases (lit< tt)

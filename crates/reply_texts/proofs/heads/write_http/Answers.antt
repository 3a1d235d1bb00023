use Rattle.std.proofs.Common.{refl}
use Rattle.reply_texts.proofs.Texts.{headed}
use Rattle.reply_texts.proofs.heads.write_http.Goals as goal

pub returns : goal.returns
returns c =
    headed c.args.closes c.args.status _ _ _ _ c.args.body.now c.in_ok-write_head.ensures c.in_ok-push_str.ensures.bytes refl

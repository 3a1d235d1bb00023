use Rattle.std.proofs.lemmas.Result.{on_ok_weaker}
use Rattle.output_texts.specs.Outputs.{output_view}
use Rattle.reply_texts.proofs.Texts.{headed, exact}
use Rattle.reply_texts.proofs.heads.write_output.Goals as goal

pub returns : goal.returns
returns c =
    let body = (output_view c.args.output.now).1 in
    on_ok_weaker c.write.result
    (λ e. headed c.args.closes 200 _ _ _ _ body c.in_ok-write_head.ensures e (exact c.write.new.out _ body _ e c.text_len.ensures))
    c.write.ensures

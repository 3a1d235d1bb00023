use Rattle.std.proofs.Common.{◌∙◌}
use Rattle.std.specs.Prelude.{codes}
use Rattle.http_definitions.specs.ReplyTexts.{stored_value}
use Rattle.reply_texts.proofs.Texts.{text_of}
use Rattle.reply_texts.proofs.bodies.stored_body.Goals as goal

pub returns : goal.returns
returns c =
    c.finished.ensures
    ∙ text_of (stored_value (codes "stored") (c.args.uri.now, c.args.replaced)) c.new_writer-out.result.tokens c.write_stored.new.out.tokens c.new_writer-out.ensures.tokens c.in_ok-write_stored.ensures.ok

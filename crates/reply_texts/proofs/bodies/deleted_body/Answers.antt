use Rattle.std.proofs.Common.{◌∙◌}
use Rattle.http_definitions.specs.ReplyTexts.{deleted_value}
use Rattle.reply_texts.proofs.Texts.{text_of}
use Rattle.reply_texts.proofs.bodies.deleted_body.Goals as goal

pub returns : goal.returns
returns c =
    c.finished.ensures
    ∙ text_of (deleted_value c.args.uri.now) c.new_writer-out.result.tokens c.write_deleted.new.out.tokens c.new_writer-out.ensures.tokens c.in_ok-write_deleted.ensures.ok

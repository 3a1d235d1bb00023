use Rattle.std.proofs.Common.{◌∙◌}
use Rattle.std.specs.Prelude.{map}
use Rattle.http_definitions.specs.ReplyTexts.{stored_all_value}
use Rattle.requests.specs.Views.{stored_entry_view}
use Rattle.reply_texts.proofs.Texts.{text_of}
use Rattle.reply_texts.proofs.bodies.stored_all_body.Goals as goal

pub returns : goal.returns
returns c =
    c.finished.ensures
    ∙ text_of (stored_all_value (map stored_entry_view c.args.entries.now)) c.new_writer-out.result.tokens c.write_stored_all.new.out.tokens c.new_writer-out.ensures.tokens c.in_ok-write_stored_all.ensures.ok

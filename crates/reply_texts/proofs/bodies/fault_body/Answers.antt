use Rattle.std.proofs.Common.{◌∙◌}
use Rattle.faults.specs.View.{fault_view}
use Rattle.http_definitions.specs.ReplyTexts.{fault_value}
use Rattle.reply_texts.proofs.Texts.{text_of}
use Rattle.reply_texts.proofs.bodies.fault_body.Goals as goal

pub returns : goal.returns
returns c =
    c.finished.ensures
    ∙ text_of (fault_value c.args.entry (fault_view c.args.refusal.now)) c.new_writer-out.result.tokens c.write_fault.new.out.tokens c.new_writer-out.ensures.tokens c.in_ok-write_fault.ensures.ok

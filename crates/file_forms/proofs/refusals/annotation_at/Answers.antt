use Rattle.std.proofs.Common.{◌∙◌, ap}
use Rattle.plain_reports.specs.Commands.{refusal_command_text}
use Rattle.file_forms.proofs.refusals.annotation_at.Goals as goal

pub returns : goal.returns
returns c = record {
  line = c.args.line;
  column = c.args.column;
  message = c.trim_end-message.result.now;
  is = c.in_ok-command.ensures ∙ ap (λ why. refusal_command_text c.args.path.now c.args.line c.args.column why c.trim_end-message.result.now) (c.as_str-2.ensures.value ∙ c.in_ok-reason.ensures);
}

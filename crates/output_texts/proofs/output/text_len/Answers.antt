use Rattle.std.proofs.Common.{◌-◌, ◌^◌, ap, length}
use Rattle.basic_output.specs.Units.{unit_texts}
use Rattle.output_texts.proofs.OutputTexts.{whole_longer}
use Rattle.output_texts.proofs.output.text_len.Goals as goal

pub returns : goal.returns
returns c =
    whole_longer (2 ^ 64 - 1) _ _ _ _ _ c.args.valid (unit_texts c.args.units.now) c.joined_len.ensures
    (ap length c.frame.ensures.0) c.saturating_add.ensures (ap length c.frame.ensures.1) c.saturating_add-2.ensures

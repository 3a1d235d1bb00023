use Rattle.std.proofs.Common.{◌++◌, ◌∙◌, ap}
use Rattle.schemareg.specs.Outputs.{bytes_in}
use Rattle.schemareg.proofs.Written.{one_more}
use Rattle.schemareg.proofs.terminal.Terminal.tell_lines.Goals as goal

pub returns-clause-told : goal.returns-clause-told
returns-clause-told g c =
    ap bytes_in c.write_errors.ensures.told ∙ one_more c.args.self.now.told c.moved-self.result c.as_bytes.result.now c.moved-self.ensures.transfers
    ∙ ap (λ t. bytes_in c.args.self.now.told ++ t) c.as_bytes.ensures.value

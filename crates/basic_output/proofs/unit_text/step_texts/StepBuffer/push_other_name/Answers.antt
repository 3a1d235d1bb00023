use Rattle.std.proofs.Common.{◌++◌, ◌∷◌, [], ap, sym, ◌∙◌, arith}
use Rattle.std.proofs.lemmas.Result.{on_ok_weaker}
use Rattle.basic_output.specs.Buffers.{buffer_text}
use Rattle.basic_output.specs.Notations.{escaped_text}
use Rattle.basic_output.proofs.PlainLaws.{unescaped_token}
use Rattle.basic_output.proofs.unit_text.step_texts.StepBuffer.push_other_name.Goals as goal

pub returns-in-Pointer : goal.returns-in-Pointer
returns-in-Pointer c =
    let name = c.args.name.now in
    let token = unescaped_token name (c.requires (omega (arith, c.if-mark-lt51.true))) ∙ ap (λ n. escaped_text n (name ∷ [])) (sym c.in-Pointer.is) in
    on_ok_weaker c.push_escaped.result (λ e. e ∙ ap (λ t. buffer_text c.args.self.now.text ++ t) token) c.push_escaped.ensures

use Rattle.std.proofs.Common.{◌≡◌, [], ◌∷◌, ◌++◌, ap, ◌∙◌}
use Rattle.json.specs.Print.{print}
use Rattle.json.specs.Token.{string}
use Rattle.basic_output.proofs.EscapeLaws.{one_string}
use Rattle.basic_output.proofs.unit_text.escaping.write_string.Goals as goal

pub returns : goal.returns
returns c =
    let t = c.args.text.now in
    let tokens : c.string.new.self.tokens ≡ string t ∷ [] = c.in_ok-string.ensures.ok ∙ ap (λ ts. ts ++ string t ∷ []) c.writer_over-out.ensures.tokens in
    c.written_by.ensures ∙ ap print tokens ∙ one_string t

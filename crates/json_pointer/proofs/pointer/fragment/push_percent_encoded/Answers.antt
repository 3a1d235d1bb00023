use Rattle.std.proofs.Common.{◌++◌, string_bytes, ap, ◌∙◌, arith}
use Rattle.json_pointer.proofs.Fragments.{encodes}
use Rattle.json_pointer.proofs.pointer.fragment.push_percent_encoded.Goals as goal

pub returns : goal.returns
returns c =
    c.in_ok-append_to.ensures.ok ∙ ap (λ b. string_bytes c.args.text.now ++ b) (c.utf8_percent_encode.ensures.text ∙ encodes c.args.run.now (λ k. omega (arith, c.type_inv.run k)))

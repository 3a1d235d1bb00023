use Rattle.std.proofs.Common.{◌≡◌, [], ◌∷◌, ◌++◌, string_bytes, flat_map, ap, ◌∙◌, append_assoc, lit<}
use Rattle.definitions.specs.Pointers.{escaped_byte, percent_encoded_text}
use Rattle.json_pointer.proofs.pointer.fragment.push_fragment_token.Goals as goal

pub returns : goal.returns
returns c =
    let text = string_bytes c.args.text.now in
    let token = percent_encoded_text (flat_map escaped_byte c.args.token.now) in
    let led : string_bytes c.push.new.self ≡ text ++ 47 ∷ [] = c.in_ok-push.ensures.bytes ∙ ap (λ b. text ++ b) (c.push.ensures.ascii (lit< tt)) in
    c.in_ok-push_fragment_escaped.ensures ∙ ap (λ a. a ++ token) led ∙ append_assoc text (47 ∷ []) token

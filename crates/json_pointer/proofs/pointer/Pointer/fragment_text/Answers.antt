use Rattle.std.proofs.Common.{◌≡◌, [], ◌∷◌, ◌++◌, map, take, string_bytes, flat_map, sym, ap, ap₂, ◌∙◌, append_assoc}
use Rattle.std.proofs.lemmas.List.{map-append, take_more, take_all}
use Rattle.definitions.specs.Pointers.{escaped_byte, fragment_text, percent_encoded_text}
use Rattle.json_pointer.proofs.Fragments.{fragment_text-more}
use Rattle.json_pointer.proofs.pointer.Pointer.fragment_text.Goals as goal

pub loop-token-preserved : goal.loop-token-preserved
loop-token-preserved c =
    let tokens = c.deref-token-items.result.now in
    let i = c.loop-token.token-index in
    let token = c.token-item.result in
    let before = map string_bytes (take i tokens) in
    let written : string_bytes c.push_fragment_token.new.text ≡ fragment_text before ++ 47 ∷ percent_encoded_text (flat_map escaped_byte (string_bytes token)) =
    c.in_ok-push_fragment_token.ensures ∙ ap₂ (λ a b. a ++ 47 ∷ percent_encoded_text (flat_map escaped_byte b)) c.loop-token.invariant c.as_str.ensures.value in
    written ∙ sym (append_assoc (fragment_text before) (47 ∷ []) (percent_encoded_text (flat_map escaped_byte (string_bytes token)))) ∙ sym (fragment_text-more before (string_bytes token))
    ∙ ap fragment_text (sym (ap (map string_bytes) (take_more tokens i token c.loop-token-test.true ∙ ap (λ t. take i tokens ++ t ∷ []) (sym c.token-item.is)) ∙ map-append string_bytes (take i tokens) (token ∷ [])))

pub returns : goal.returns
returns c =
    let all = take_all c.loop-token.token-index c.deref-token-items.result.now c.loop-token-test.false ∙ c.deref-token-items.ensures.value in
    c.loop-token.invariant ∙ ap (λ ts. fragment_text (map string_bytes ts)) all ∙ ap fragment_text c.self.view_is

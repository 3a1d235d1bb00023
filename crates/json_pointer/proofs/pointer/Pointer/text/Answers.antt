use Rattle.std.proofs.Common.{◌≡◌, [], ◌∷◌, ◌++◌, map, take, string_bytes, flat_map, sym, ap, ap₂, ◌∙◌, append_assoc}
use Rattle.std.proofs.lemmas.List.{map-append, take_more, take_all}
use Rattle.definitions.specs.Pointers.{escaped_byte, pointer_of, pointer_text}
use Rattle.lemmas.proofs.PointerTexts.{read_back}
use Rattle.json_pointer.proofs.Escaped.{pointer_text-more}
use Rattle.json_pointer.proofs.pointer.Pointer.text.Goals as goal

pub loop-token-preserved : goal.loop-token-preserved
loop-token-preserved c =
    let tokens = c.deref-token-items.result.now in
    let i = c.loop-token.token-index in
    let token = c.token-item.result in
    let before = map string_bytes (take i tokens) in
    let written : string_bytes c.push_token.new.text ≡ pointer_text before ++ 47 ∷ flat_map escaped_byte (string_bytes token) =
    c.in_ok-push_token.ensures ∙ ap₂ (λ a b. a ++ 47 ∷ flat_map escaped_byte b) c.loop-token.invariant c.as_str.ensures.value in
    written ∙ sym (append_assoc (pointer_text before) (47 ∷ []) (flat_map escaped_byte (string_bytes token))) ∙ sym (pointer_text-more before (string_bytes token))
    ∙ ap pointer_text (sym (ap (map string_bytes) (take_more tokens i token c.loop-token-test.true ∙ ap (λ t. take i tokens ++ t ∷ []) (sym c.token-item.is)) ∙ map-append string_bytes (take i tokens) (token ∷ [])))

pub returns-clause-text : goal.returns-clause-text
returns-clause-text c =
    let all = take_all c.loop-token.token-index c.deref-token-items.result.now c.loop-token-test.false ∙ c.deref-token-items.ensures.value in
    c.loop-token.invariant ∙ ap (λ ts. pointer_text (map string_bytes ts)) all ∙ ap pointer_text c.self.view_is

pub returns-clause-read_back : goal.returns-clause-read_back
returns-clause-read_back c = ap pointer_of (returns-clause-text c) ∙ read_back c.args.self.now

use Rattle.std.proofs.Common.{◌≡◌, ◌++◌, ◌∷◌, [], map, string_bytes, ap, ap₂, sym, ◌∙◌}
use Rattle.std.proofs.lemmas.List.{map-append}
use Rattle.lemmas.proofs.Lists.{map-take_more}
use Rattle.stored_documents.proofs.resource_texts.copied.Goals as goal

pub loop-uri-init : goal.loop-uri-init
loop-uri-init c = ap (map string_bytes) c.in_ok-copies.ensures.items

pub loop-uri-preserved : goal.loop-uri-preserved
loop-uri-preserved c =
    let item : string_bytes c.in_ok-to_owned.field-0 ≡ string_bytes c.uri-item.result = c.in_ok-to_owned.ensures.ok ∙ c.as_str.ensures.value in
    ap (map string_bytes) c.in_ok-push.ensures.items
    ∙ map-append string_bytes c.loop-uri.copies.items (c.in_ok-to_owned.field-0 ∷ [])
    ∙ ap₂ (λ us u. us ++ u ∷ []) c.loop-uri.invariant item
    ∙ sym (map-take_more string_bytes c.args.uris.now c.loop-uri.uri-index c.uri-item.result c.loop-uri-test.true c.uri-item.is)

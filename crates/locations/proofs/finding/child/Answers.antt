use Rattle.std.proofs.Common.{◌≤◌, ◌^◌, option_map, option_and_then, Some, None, map, length, sym, ap, ◌∙◌, arith}
use Rattle.std.proofs.lemmas.List.{length-map}
use Rattle.std.specs.List.{slice_get}
use Rattle.json_doc.specs.Docs.{value}
use Rattle.json_doc.proofs.Views.{value-List}
use Rattle.locations.proofs.Indexes.{element_of, element_at}
use Rattle.locations.proofs.finding.child.Goals as goal

pub returns-in_err-array_index-in-List : goal.returns-in_err-array_index-in-List
returns-in_err-array_index-in-List c =
    let items = c.in-List.items in
    let short : length (map value items.items) ≤ 2 ^ 64 = rw length-map (omega (arith, c.deref.ensures.len)) in
    ap (option_map (λ d. value d.now)) c.from_residual.ensures
    ∙ sym (element_of c.args.token.now c.args.doc.now items.items None (ap value c.in-List.is ∙ value-List items) short (sym (c.in_err-array_index-in-List.was) ∙ c.array_index.ensures))

pub returns-in_ok-array_index-in-List : goal.returns-in_ok-array_index-in-List
returns-in_ok-array_index-in-List c =
    let items = c.in-List.items in
    let i = c.in_ok-array_index-in-List.field-0 in
    let short : length (map value items.items) ≤ 2 ^ 64 = rw length-map (omega (arith, c.deref.ensures.len)) in
    element_at c.deref.result.now i c.get.result c.get.ensures.lookup.3
    ∙ ap (λ ds. option_and_then (slice_get (map value ds)) (Some i)) c.deref.ensures.value
    ∙ sym (element_of c.args.token.now c.args.doc.now items.items (Some i) (ap value c.in-List.is ∙ value-List items) short (sym (c.in_ok-array_index-in-List.was) ∙ c.array_index.ensures))

use Rattle.std.proofs.Common.{rules, tests, sym, ap, subst, ◌∙◌}
use Rattle.std.proofs.lemmas.Fn.{always_returns_same}
use Rattle.std.specs.Borrow.{Bor}
use Rattle.std.specs.List.{list_any}
use Rattle.definitions.specs.Values.{same}
use Rattle.json_doc.specs.Docs.{value}
use Rattle.json_doc.specs.declared.doc.Doc.{Doc}
use Rattle.value_order.specs.Orders.{compared}
use Rattle.value_order.specs.Searched.{has_value}
use Rattle.value_order.specs.Sorts.{values_behind, AreSorted}
use Rattle.value_order.proofs.Searching.{found_in}
use Rattle.value_order.proofs.sorted_values.SortedValues.contains.Goals as goal

pub returns : goal.returns
unfolding has_value
returns c =
    let v = value c.args.doc.now in
    let facts = c.binary_search_by.ensures in
    let by_value = facts.position (λ (b : Bor Doc). compared (value b.now) v) (always_returns_same _ _ _ (λ a r g called. search (rules, tests))) in
    let docs = c.deref.result.now in
    let in_order = subst AreSorted (sym c.deref.ensures.value) c.args.self.now.in_order in
    c.is_ok.ensures.value ∙ found_in docs v c.binary_search_by.result in_order facts.bound by_value
    ∙ ap (λ refs. list_any (same v) (values_behind refs)) c.deref.ensures.value

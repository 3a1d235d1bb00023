use Rattle.std.proofs.Common.{refl, sym, ap, ◌∙◌, subst}
use Rattle.std.specs.BTreeMap.{insert_entry}
use Rattle.json_doc.specs.NameMaps.{IsAbove}
use Rattle.json_doc.specs.SmallTexts.{text_cmp, text_view}
use Rattle.json_doc.proofs.Positions.{InOrder, put_above, in_order_put}
use Rattle.json_doc.proofs.name_map.NameMap.push.Goals as goal

pub returns-clause-ok : goal.returns-clause-ok
returns-clause-ok g c =
    let es = c.self.inside.entries.items in
    let key = c.args.name in
    let above : IsAbove (text_view key) es = subst (IsAbove (text_view key)) (sym c.self.view_is) c.requires in
    record {
      key = key;
      is = refl;
      put =
          c.in_ok-push.ensures.items ∙ put_above key c.args.value es above
          ∙ ap (λ es. insert_entry text_cmp es key c.args.value) c.self.view_is;
    }

pub invariant_of-self-2 : goal.invariant_of-self-2
invariant_of-self-2 g c =
    let es = c.self.inside.entries.items in
    let key = c.args.name in
    let above : IsAbove (text_view key) es = subst (IsAbove (text_view key)) (sym c.self.view_is) c.requires in
    subst InOrder
    (sym (c.in_ok-push.ensures.items ∙ put_above key c.args.value es above))
    (in_order_put key c.args.value es c.self.invariant)

use Rattle.std.proofs.Common.{sym, ap, ◌∙◌, subst}
use Rattle.std.specs.BTreeMap.{insert_entry}
use Rattle.json_doc.specs.SmallTexts.{text_cmp}
use Rattle.json_doc.proofs.Positions.{InOrder, key_found, put_found, put_missing, in_order_put}
use Rattle.json_doc.proofs.name_map.NameMap.put.Goals as goal

pub invariant_of-self : goal.invariant_of-self
invariant_of-self g c =
    let es = c.self.inside.entries.items in
    let e = c.index_mut.result.now in
    let is = key_found c.args.name.now c.as_slice.result.now es c.in-Ok.position e c.as_slice.ensures.value c.index_mut.ensures.value c.in-Ok.ensures.found in
    subst InOrder
    (sym (put_found c.args.name.now e.0 c.args.value c.as_slice.result.now es c.in-Ok.position e (sym is) c.as_slice.ensures.value c.index_mut.ensures.value c.in-Ok.ensures.found))
    (in_order_put e.0 c.args.value es c.self.invariant)

pub invariant_of-self-in-Err : goal.invariant_of-self-in-Err
invariant_of-self-in-Err g c =
    let es = c.self.inside.entries.items in
    let key = c.in_ok-from_str-in-Err.field-0 in
    subst InOrder
    (sym (c.in_ok-insert-in-Err.ensures.items ∙ put_missing c.args.name.now key c.args.value c.as_slice.result.now es c.in-Err.gap (sym c.in_ok-from_str-in-Err.ensures.ok) c.as_slice.ensures.value c.in-Err.ensures.gap))
    (in_order_put key c.args.value es c.self.invariant)

pub returns-in-Ok-clause-ok : goal.returns-in-Ok-clause-ok
returns-in-Ok-clause-ok g c =
    let es = c.self.inside.entries.items in
    let e = c.index_mut.result.now in
    let is = key_found c.args.name.now c.as_slice.result.now es c.in-Ok.position e c.as_slice.ensures.value c.index_mut.ensures.value c.in-Ok.ensures.found in
    record {
      key = e.0;
      is = is;
      put =
          put_found c.args.name.now e.0 c.args.value c.as_slice.result.now es c.in-Ok.position e (sym is) c.as_slice.ensures.value c.index_mut.ensures.value c.in-Ok.ensures.found
          ∙ ap (λ es. insert_entry text_cmp es e.0 c.args.value) c.self.view_is;
    }

pub returns-in_ok-insert-in-Err-clause-ok : goal.returns-in_ok-insert-in-Err-clause-ok
returns-in_ok-insert-in-Err-clause-ok g c =
    let es = c.self.inside.entries.items in
    let key = c.in_ok-from_str-in-Err.field-0 in
    record {
      key = key;
      is = c.in_ok-from_str-in-Err.ensures.ok;
      put =
          c.in_ok-insert-in-Err.ensures.items
          ∙ put_missing c.args.name.now key c.args.value c.as_slice.result.now es c.in-Err.gap (sym c.in_ok-from_str-in-Err.ensures.ok) c.as_slice.ensures.value c.in-Err.ensures.gap
          ∙ ap (λ es. insert_entry text_cmp es key c.args.value) c.self.view_is;
    }

use Rattle.std.proofs.Common.{◌≡◌, [], ◌∷◌, ◌++◌, length, sym, ap, ◌∙◌, subst, append_assoc, arith}
use Rattle.std.specs.BTreeMap.{insert_entry}
use Rattle.std.specs.Vec.Iter.{into_iter_items}
use Rattle.json_doc.specs.SmallTexts.{text_cmp}
use Rattle.json_doc.proofs.Positions.{Entry, InOrder, put_next}
use Rattle.json_doc.proofs.name_map.NameMap.into_map.Goals as goal

pub loop-name-preserved : goal.loop-name-preserved
loop-name-preserved g c =
    let l = c.loop-name in
    let e : Entry g.row.T.Denot = (c.in-Some.name, c.in-Some.value) in
    let rest = into_iter_items c.next.new.self in
    let step = c.in-Some.ensures.steps.0 in
    let all : c.self.inside.entries.items ≡ l.yielded ++ e ∷ rest = sym c.into_iter-name-iterator.ensures.into_iter_gives.0 ∙ sym l.invariant.all ∙ ap (λ es. l.yielded ++ es) step in
    record {
      all = append_assoc l.yielded (e ∷ []) rest ∙ rw (← step) l.invariant.all;
      put =
          c.in_ok-insert.ensures.entries ∙ ap (λ es. insert_entry text_cmp es e.0 e.1) l.invariant.put
          ∙ put_next l.yielded e rest (subst InOrder all c.self.invariant);
      left =
          let was = l.invariant.left in
          let gone = c.in-Some.ensures.steps.1 in
          let short = ap length step in
          omega arith;
    }

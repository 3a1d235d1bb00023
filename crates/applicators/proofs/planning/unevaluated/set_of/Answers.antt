use Rattle.std.proofs.lemmas.List.{drop_all}
use Rattle.std.specs.BTreeSet.{contains}
use Rattle.std.specs.Ordering.{eq_by_cmp}
use Rattle.applicators.proofs.Growing.{next_item}
use Rattle.applicators.proofs.Seen.{seen-more, seen-all}
use Rattle.applicators.proofs.planning.unevaluated.set_of.Goals as goal

pub loop-key-preserved : goal.loop-key-preserved
loop-key-preserved g c q =
    let R = g.K.Ord.cmp in
    let x = c.key-item.result in
    seen-more (contains R c.loop-key.seen q) (contains R c.insert.new.self q) (λ k. eq_by_cmp R k q) x _ _ _
    (next_item c.args.keys.now c.loop-key.key-index x c.loop-key-test.true c.key-item.is)
    (c.in_ok-insert.ensures.updates.0 q) (c.loop-key.invariant q)

pub returns : goal.returns
returns g c q =
    let R = g.K.Ord.cmp in
    seen-all (contains R c.loop-key.seen q) (λ k. eq_by_cmp R k q) _ _ (drop_all c.loop-key.key-index c.args.keys.now c.loop-key-test.false) (c.loop-key.invariant q)

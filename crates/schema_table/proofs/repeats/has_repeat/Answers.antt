use Rattle.std.proofs.Common.{◌≡◌, ◌+◌, drop, true, refl, sym, ap, ◌∙◌, rules}
use Rattle.std.proofs.lemmas.Bool.{not-true}
use Rattle.std.specs.BTreeSet as tree
use Rattle.std.specs.Ordering.{eq_by_cmp}
use Rattle.schema_table.proofs.Lists.{next_item}
use Rattle.schema_table.proofs.SeenKeys.{repeats, repeats-new, repeats-none}
use Rattle.schema_table.proofs.repeats.has_repeat.Goals as goal

pub loop-key-init : goal.loop-key-init
loop-key-init g c =
    sym (repeats-none (eq_by_cmp g.K.Ord.cmp) (tree.contains g.K.Ord.cmp c.new-seen.result) (λ q. search (rules, c.new-seen.ensures.empty)) c.args.keys.now)

pub loop-key-preserved : goal.loop-key-preserved
loop-key-preserved g c =
    let R = g.K.Ord.cmp in
    let x = c.key-item.result in
    let added : c.in_ok-insert.field-0 ≡ true = search rules in
    c.loop-key.invariant
    ∙ ap (repeats (eq_by_cmp R) (tree.contains R c.loop-key.seen)) (next_item c.args.keys.now c.args.keys.now c.loop-key.key-index x refl c.loop-key-test.true c.key-item.is)
    ∙ repeats-new (eq_by_cmp R) (tree.contains R c.loop-key.seen) (tree.contains R c.insert.new.self) x (drop (c.loop-key.key-index + 1) c.args.keys.now) c.in_ok-insert.ensures.updates.0
    (not-true (tree.contains R c.loop-key.seen x) (sym c.in_ok-insert.ensures.added ∙ added))

use Rattle.std.proofs.Common.{drop, sym, subst}
use Rattle.json_doc.specs.NameMaps.{IsAbove, IsAboveNone}
use Rattle.json_doc.proofs.Positions.{InOrder, in_order_from, none_above_below, none_above_from}
use Rattle.json_doc.proofs.name_map.split_at_name.Goals as goal

pub returns-in-Ok : goal.returns-in-Ok
returns-in-Ok g c =
    let there = c.in-Ok.ensures.found in
    let front = sym c.split_at.ensures.front in
    let back = sym c.split_at.ensures.back in
    record {
      all = sym c.split_at.ensures.by_index.0;
      below = subst (IsAbove c.args.name.now) front there.above;
      others = subst (IsAboveNone c.args.name.now) back (none_above_from c.args.name.now c.args.entries.now c.in-Ok.position c.requires there);
      ordered = subst InOrder back (in_order_from c.args.entries.now c.in-Ok.position c.requires);
    }

pub returns-in-Err : goal.returns-in-Err
returns-in-Err g c =
    let there = c.in-Err.ensures.gap in
    let front = sym c.split_at-in-Err.ensures.front in
    let back = sym c.split_at-in-Err.ensures.back in
    record {
      all = sym c.split_at-in-Err.ensures.by_index.0;
      below = subst (IsAbove c.args.name.now) front there.above;
      others = subst (IsAboveNone c.args.name.now) back (none_above_below c.args.name.now (drop c.in-Err.gap c.args.entries.now) there.below);
      ordered = subst InOrder back (in_order_from c.args.entries.now c.in-Err.gap c.requires);
    }

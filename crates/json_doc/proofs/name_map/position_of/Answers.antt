use Rattle.std.proofs.Common.{◌<◌, ◌+◌, ◌-◌, ◌/◌, ℕ, length, get_or, ap, ◌∙◌, arith}
use Rattle.std.proofs.lemmas.List.{get_or_default}
use Rattle.json_doc.specs.NameMaps.{order_to}
use Rattle.json_doc.proofs.Positions.{above_next, above_before, below_from, told}
use Rattle.json_doc.proofs.name_map.position_of.Goals as goal

pub loop-low-preserved-in-Less : goal.loop-low-preserved-in-Less
loop-low-preserved-in-Less g c =
    let l = c.loop-low in
    let middle : ℕ = l.low + (l.high - l.low) / 2 in
    let es = c.args.entries.now in
    let here = told c.args.name.now c.as_str.result.now (get_or es middle c.index-entries-middle.result) _ c.as_str.ensures c.in-Less.ensures in
    record {
      order = omega arith;
      within = omega (arith, l.invariant.within);
      above = l.invariant.above;
      below = below_from c.args.name.now es middle c.index-entries-middle.result c.requires (omega (arith, l.invariant.within, c.loop-low-test.true)) here;
    }

pub returns-in-Equal-clause-found : goal.returns-in-Equal-clause-found
returns-in-Equal-clause-found g c =
    let l = c.loop-low in
    let middle : ℕ = l.low + (l.high - l.low) / 2 in
    let es = c.args.entries.now in
    let there : middle < length es = omega (arith, l.invariant.within, c.loop-low-test.true) in
    let here = told c.args.name.now c.as_str.result.now (get_or es middle c.index-entries-middle.result) _ c.as_str.ensures c.in-Equal.ensures in
    record {
      within = there;
      above = above_before c.args.name.now es middle c.index-entries-middle.result c.requires there here;
      same = λ d. ap (order_to c.args.name.now) (get_or_default es middle d c.index-entries-middle.result there) ∙ here;
    }

pub loop-low-preserved : goal.loop-low-preserved
loop-low-preserved g c =
    let l = c.loop-low in
    let middle : ℕ = l.low + (l.high - l.low) / 2 in
    let es = c.args.entries.now in
    let there : middle < length es = omega (arith, l.invariant.within, c.loop-low-test.true) in
    let here = told c.args.name.now c.as_str.result.now (get_or es middle c.index-entries-middle.result) _ c.as_str.ensures c.in-Greater.ensures in
    record {
      order = omega (arith, c.loop-low-test.true);
      within = l.invariant.within;
      above = above_next c.args.name.now es middle c.index-entries-middle.result c.requires there here;
      below = l.invariant.below;
    }

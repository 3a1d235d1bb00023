use Rattle.std.proofs.Common.{◌≡◌, ◌<◌, ◌+◌, ◌-◌, ◌&&◌, cond, Some, drop, length, map, sym, ap, ap₂, ◌∙◌, arith}
use Rattle.std.specs.List.{position_from}
use Rattle.definitions.specs.Values.{same_text}
use Rattle.lemmas.proofs.Lists.{drop_more-map}
use Rattle.schema_table.specs.Gathering.{anchor_mark}
use Rattle.schema_table.specs.Lookups.{has_mark}
use Rattle.schema_table.specs.PairNumbers.{pair_number}
use Rattle.schema_scan.proofs.anchor_numbers.anchor_numbers_of.Goals as goal

pub loop-number-preserved : goal.loop-number-preserved
loop-number-preserved c =
    let next = c.loop-number.number in
    let i = next - 1 in
    let anchors = c.args.anchors.now in
    let a = c.index-anchors-number.result in
    let follows : i + 1 ≡ next = omega arith in
    let within : i < length anchors = omega arith in
    record {
      within = omega arith;
      first = λ u n.
          c.in_ok-add_pair.ensures u n
          ∙ ap₂ (λ r m. cond (same_text u r && same_text n m) (Some i) (pair_number c.loop-number.numbers u n)) c.as_str.ensures.value c.as_str-in-loop-number.ensures.value
          ∙ ap (λ o. cond (has_mark u n (anchor_mark a)) (Some i) o) (c.loop-number.invariant.first u n)
          ∙ ap (λ m. cond (has_mark u n (anchor_mark a)) (Some i) (position_from (has_mark u n) m (drop m (map anchor_mark anchors)))) (sym follows)
          ∙ sym (ap (position_from (has_mark u n) i) (drop_more-map anchor_mark anchors i a within c.index-anchors-number.is));
    }

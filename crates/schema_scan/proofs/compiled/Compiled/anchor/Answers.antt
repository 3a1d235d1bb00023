use Rattle.std.proofs.Common.{map, option_and_then, ap, ◌∙◌}
use Rattle.std.specs.List.{slice_get}
use Rattle.schema_table.specs.Gathering.{anchor_mark, table_marks}
use Rattle.schema_table.specs.Lookups.{has_mark}
use Rattle.schema_table.specs.PairNumbers.{pair_number}
use Rattle.schema_table.proofs.Paired.{found-by_number}
use Rattle.schema_scan.proofs.compiled.Compiled.anchor.Goals as goal

pub returns : goal.returns
unfolding table_marks
returns c =
    let d = c.args.self.now in
    let uri = c.args.uri.now in
    let name = c.args.name.now in
    let marks = map anchor_mark d.table.anchors.items in
    c.find_anchor.ensures
    ∙ ap (λ anchors. option_and_then (slice_get (map anchor_mark anchors)) (pair_number d.anchor_numbers uri name)) c.deref.ensures.value
    ∙ ap (option_and_then (slice_get marks)) (d.by_anchor uri name)
    ∙ found-by_number (has_mark uri name) marks

use Rattle.std.proofs.Common.{◌≡◌, map, take}
use Rattle.schema_table.specs.AnchorViews.{anchor_view}
use Rattle.schema_table.specs.Gathering.{anchor_mark, mark_pair}
use Rattle.schema_table.proofs.names.pairs_of.Given as goal

abbrev pub invariant-loop-anchor : goal.invariant-loop-anchor
invariant-loop-anchor l = map anchor_view l.pairs.items ≡ map mark_pair (map anchor_mark (take l.anchor-index l.anchors))

use Rattle.std.proofs.Common.{◌≡◌, ◌||◌, take, map}
use Rattle.std.specs.List.{list_any}
use Rattle.definitions.specs.Values.{Text}
use Rattle.schema_table.specs.Lookups.{has_dynamic_mark}
use Rattle.schema_scan.specs.DynamicResources.{has_resource}
use Rattle.schema_table.specs.Gathering.{anchor_mark}
use Rattle.schema_scan.proofs.dynamic_resources.add_resources.Given as goal

abbrev pub invariant-loop-anchor : goal.invariant-loop-anchor
invariant-loop-anchor l =
    (u n : Text) → has_resource l.resources u n ≡ (has_resource l.initial.resources u n || list_any (has_dynamic_mark u n) (map anchor_mark (take l.anchor-index l.anchors)))

use Rattle.std.proofs.Common.{◌≡◌, map, take}
use Rattle.json_doc.specs.Docs.{value}
use Rattle.plain_reports.specs.ErrorUnits.{unit_in}
use Rattle.plain_reports.specs.UnitViews.{unit_view}
use Rattle.plain_reports.proofs.units.each_unit.Given as goal

abbrev pub invariant-loop-item : goal.invariant-loop-item
invariant-loop-item l = map unit_view l.units.items ≡ map unit_in (map value (take l.item-index l.items))

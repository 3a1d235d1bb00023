use Rattle.std.proofs.Common.{◌≡◌, ◌++◌, map, length}
use Rattle.plain_reports.specs.ErrorUnits.{causes}
use Rattle.plain_reports.specs.UnitViews.{unit_view}
use Rattle.plain_reports.proofs.causes.causes_of.Given as goal

abbrev pub invariant-loop-left : goal.invariant-loop-left
invariant-loop-left l = causes (map unit_view l.units) ≡ map unit_view l.found.items ++ causes (map unit_view l.left)

abbrev pub decreases-loop-left : goal.decreases-loop-left
decreases-loop-left l = length l.left

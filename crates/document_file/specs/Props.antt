-- A store holds rows in one way at most.
use Rattle.std.proofs.Common.{List}
use mathlib.Core.HLevel.{Π_prop}
use Rattle.stored_rows.specs.Rows.{Row}
use Rattle.sqlite_trees.specs.Props.{rows_set}
use Rattle.sqlite_trees.specs.View.{View}
use Rattle.document_file.specs.Tables.{HoldsRows}

pub one_way : (v : View) (rows : List Row) → IsProp (HoldsRows v rows)
one_way v rows = Π_prop (λ _. Π_prop (λ _. rows_set _ _))

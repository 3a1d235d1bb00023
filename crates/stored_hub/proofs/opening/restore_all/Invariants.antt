use Rattle.std.proofs.Common.{List, option_map}
use Rattle.definitions.specs.Patterns.{regular_search}
use Rattle.stored_rows.specs.Restoring.{Restores}
use Rattle.stored_rows.specs.RowViews.{row_view}
use Rattle.stored_rows.specs.Rows.{Ascend, Row}
use Rattle.stored_hub.specs.Storing.{OnlyReads}
use Rattle.tenant_hub.specs.Hubs.{hub_view}
use Rattle.stored_hub.proofs.OpenedRows.{EndsAt, HasLast}
use Rattle.stored_hub.proofs.opening.restore_all.Given as goal

-- these rows were read, and are put back
abbrev pub invariant-rows : goal.invariant-rows
invariant-rows g l =
    (rows : List Row) × record {
      read : g.D.DocumentStore.has_read l.store rows;
      restores : Restores regular_search (hub_view l.initial.hub) rows (hub_view l.hub);
      ascend : Ascend rows;
      ends : EndsAt rows (option_map row_view l.last);
      has_last : HasLast rows (option_map row_view l.last);
      same : OnlyReads g.D.DocumentStore.holds g.D.DocumentStore.recovers l.fn.store l.store;
    }

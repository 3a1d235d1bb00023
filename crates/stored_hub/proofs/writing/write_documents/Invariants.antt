use Rattle.std.proofs.Common.{map, take}
use Rattle.requests.specs.Views.{stored_entry_view}
use Rattle.stored_rows.specs.Rows.{with_each}
use Rattle.stored_hub.specs.Storing.{RecoversNoMore, WritesInto}
use Rattle.tenant_hub.specs.Hubs.{hub_view}
use Rattle.stored_hub.proofs.writing.write_documents.Given as goal

abbrev pub invariant-loop-entry : goal.invariant-loop-entry
invariant-loop-entry g l =
    record {
      written : WritesInto g.D.DocumentStore.holds l.initial.store (with_each l.key (hub_view l.hub) (map stored_entry_view (take l.entry-index l.entries))) l.store;
      recovers : RecoversNoMore g.D.DocumentStore.recovers l.initial.store l.store;
    }

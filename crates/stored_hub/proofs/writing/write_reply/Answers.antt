use Rattle.std.proofs.Common.{OnOk, map, sym, subst}
use Rattle.requests.specs.Views.{reply_view, stored_entry_view}
use Rattle.stored_rows.specs.Rows.{with_each}
use Rattle.stored_hub.specs.Storing.{WritesInto, WritesReply}
use Rattle.tenant_hub.specs.Hubs.{hub_view}
use Rattle.stored_hub.proofs.WrittenRows.{all_written}
use Rattle.stored_hub.proofs.writing.write_reply.Goals as goal

pub returns-in-StoredAll-clause-ok : goal.returns-in-StoredAll-clause-ok
returns-in-StoredAll-clause-ok g c =
    let key = c.args.key.now in
    let ks = hub_view c.args.hub.now in
    let holds = g.D.DocumentStore.holds in
    let after = c.write_documents.new.store in
    subst (λ r. OnOk c.write_documents.result (WritesReply holds c.args.store.now key ks (reply_view r) after)) (sym c.in-StoredAll.is)
    (all_written holds c.args.store.now after c.write_documents.result key ks (map stored_entry_view c.in-StoredAll.entries.items)
    (subst (λ es. OnOk c.write_documents.result (WritesInto holds c.args.store.now (with_each key ks (map stored_entry_view es)) after)) c.deref.ensures.value
    c.write_documents.ensures.ok))

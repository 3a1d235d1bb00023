use Rattle.std.proofs.Common.{◌∷◌, [], map, take, sym, subst}
use Rattle.std.proofs.lemmas.List.{map-append, take_more}
use Rattle.requests.specs.Views.{stored_entry_view}
use Rattle.stored_rows.specs.Rows.{document_at, with_document, with_each}
use Rattle.stored_hub.specs.Storing.{WritesInto}
use Rattle.tenant_hub.specs.Hubs.{hub_view}
use Rattle.stored_hub.proofs.WrittenRows.{one_more}
use Rattle.stored_hub.proofs.writing.write_documents.Goals as goal

pub loop-entry-preserved : goal.loop-entry-preserved
loop-entry-preserved g c =
    let l = c.loop-entry in
    let key = c.args.key.now in
    let ks = hub_view c.args.hub.now in
    let more = take_more c.args.entries.now l.entry-index c.entry-item.result c.loop-entry-test.true in
    let before = take l.entry-index c.args.entries.now in
    rw (more, ← c.entry-item.is) (record {
      written =
          subst (λ us. WritesInto g.D.DocumentStore.holds c.args.store.now (with_each key ks us) c.write_document.new.store)
          (sym (map-append stored_entry_view before (c.entry-item.result ∷ [])))
          (one_more g.D.DocumentStore.holds c.args.store.now l.store c.write_document.new.store key ks (map stored_entry_view before) (stored_entry_view c.entry-item.result)
          l.invariant.written
          (subst (λ u. WritesInto g.D.DocumentStore.holds l.store (with_document key (document_at ks key u)) c.write_document.new.store) c.as_str.ensures.value c.in_ok-write_document.ensures.ok));
      recovers = λ rs may. l.invariant.recovers rs (c.in_ok-write_document.ensures.recovers rs may);
    })

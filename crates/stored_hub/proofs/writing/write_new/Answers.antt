use Rattle.std.proofs.Common.{sym}
use Rattle.tenant_hub.specs.Hubs.{hub_view}
use Rattle.stored_hub.proofs.WrittenRows.{new_written}
use Rattle.stored_hub.proofs.writing.write_new.Goals as goal

pub returns-in-Some-clause-ok : goal.returns-in-Some-clause-ok
returns-in-Some-clause-ok g c =
    let a = c.args in
    new_written g.D.DocumentStore.holds a.store.now c.insert.new.self c.insert.result (hub_view a.hub.now) a.key.now a.tenant.now a.uri.now c.in-Some.base.now c.in-Some.text.now
    c.requires.tenant (sym c.in-Some.ensures) c.insert.ensures.ok

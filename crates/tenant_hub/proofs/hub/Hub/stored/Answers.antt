use Rattle.std.proofs.Common.{◌∙◌, sym, ap, arith, length}
use Rattle.tenant_hub.specs.KeyedRegistries.{position_of}
use Rattle.tenant_hub.specs.Hubs.{hub_view}
use Rattle.tenant_hub.proofs.Positions.{found_some}
use Rattle.tenant_hub.proofs.PutBack.{texts_at, none_at}
use Rattle.tenant_hub.proofs.hub.Hub.stored.Goals as goal

pub index-requires : goal.index-requires
index-requires c =
    let a = found_some c.args.key.now c.args.self.now.registries.items c.in-Some.position (c.in-Some.ensures ∙ ap (position_of c.args.key.now 0) c.deref.ensures.value) in
    omega (arith, a.within, c.deref.ensures.len, ap length c.deref.ensures.value)

pub returns-in-Some : goal.returns-in-Some
unfolding hub_view
returns-in-Some c =
    let a = found_some c.args.key.now c.args.self.now.registries.items c.in-Some.position (c.in-Some.ensures ∙ ap (position_of c.args.key.now 0) c.deref.ensures.value) in
    c.texts_of.ensures ∙ sym (texts_at c.args.key.now c.args.uri.now c.args.self.now.registries.items c.in-Some.position c.index.result.now a c.index.ensures)

pub returns-in-None : goal.returns-in-None
unfolding hub_view
returns-in-None c =
    sym (none_at c.args.key.now c.args.uri.now c.args.self.now.registries.items
    (sym c.in-None.is ∙ (c.position_of.ensures ∙ ap (position_of c.args.key.now 0) c.deref.ensures.value)))

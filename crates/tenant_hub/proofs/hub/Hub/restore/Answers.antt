use Rattle.std.proofs.Common.{◌∙◌, refl, sym, ap, arith, length}
use Rattle.requests.specs.Views.{reply_view}
use Rattle.tenant_hub.specs.KeyedRegistries.{position_of}
use Rattle.std.specs.Vec.{with_item}
use Rattle.tenant_hub.specs.Hubs.{hub_view}
use Rattle.tenant_hub.proofs.Positions.{found_some}
use Rattle.tenant_hub.proofs.PutBack.{restored_at, unknown_restored}
use Rattle.tenant_hub.proofs.KeptRegistries.{all_kept}
use Rattle.tenant_hub.proofs.hub.Hub.restore.Goals as goal

pub index_mut-requires : goal.index_mut-requires
index_mut-requires c =
    let a = found_some c.args.key.now c.args.self.now.registries.items c.in-Some.position (c.in-Some.ensures ∙ ap (position_of c.args.key.now 0) c.deref.ensures.value) in
    omega (arith, a.within, c.deref.ensures.len, ap length c.deref.ensures.value)

pub returns-clause-restored : goal.returns-clause-restored
unfolding hub_view
returns-clause-restored c =
    let a = found_some c.args.key.now c.args.self.now.registries.items c.in-Some.position (c.in-Some.ensures ∙ ap (position_of c.args.key.now 0) c.deref.ensures.value) in
    restored_at c.args.key.now c.args.base.now c.args.text.now (reply_view c.restore.result) c.args.self.now.registries.items c.in-Some.position c.index_mut.result.now c.restore.new.self
    a c.index_mut.ensures.value c.restore.ensures.key c.restore.ensures.restored

pub returns-in_default-clause-restored : goal.returns-in_default-clause-restored
unfolding hub_view
returns-in_default-clause-restored c =
    unknown_restored c.args.key.now c.args.base.now c.args.text.now _ c.args.self.now.registries.items
    (sym c.in_default.is ∙ (c.position_of.ensures ∙ ap (position_of c.args.key.now 0) c.deref.ensures.value)) refl

pub returns-clause-kept : goal.returns-clause-kept
unfolding hub_view
returns-clause-kept c = all_kept (with_item c.args.self.now.registries c.in-Some.position c.restore.new.self).items

pub returns-in_default-clause-kept : goal.returns-in_default-clause-kept
unfolding hub_view
returns-in_default-clause-kept c = all_kept c.args.self.now.registries.items

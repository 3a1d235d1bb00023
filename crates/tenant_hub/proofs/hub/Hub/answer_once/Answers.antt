use Rattle.std.proofs.Common.{◌∙◌, refl, sym, ap, arith, length}
use Rattle.requests.specs.Views.{request_view, reply_view}
use Rattle.tenant_hub.specs.KeyedRegistries.{position_of}
use Rattle.tenant_hub.specs.Hubs.{hub_view}
use Rattle.tenant_hub.proofs.Positions.{found_some, answered_at, unknown_refused}
use Rattle.tenant_hub.proofs.hub.Hub.answer_once.Goals as goal

pub index_mut-requires : goal.index_mut-requires
index_mut-requires c =
    let a = found_some c.args.key.now c.args.self.now.registries.items c.in-Some.position (c.in-Some.ensures ∙ ap (position_of c.args.key.now 0) c.deref.ensures.value) in
    omega (arith, a.within, c.deref.ensures.len, ap length c.deref.ensures.value)

pub returns-in-Some : goal.returns-in-Some
unfolding hub_view
returns-in-Some c =
    let a = found_some c.args.key.now c.args.self.now.registries.items c.in-Some.position (c.in-Some.ensures ∙ ap (position_of c.args.key.now 0) c.deref.ensures.value) in
    answered_at c.args.key.now (request_view c.args.request.now) (reply_view c.answer.result) c.args.self.now.registries.items c.in-Some.position c.index_mut.result.now c.answer.new.self
    a c.index_mut.ensures.value c.answer.ensures.key c.answer.ensures.answer

pub returns-in-None : goal.returns-in-None
unfolding hub_view
returns-in-None c =
    unknown_refused c.args.key.now (request_view c.args.request.now) _ c.args.self.now.registries.items
    (sym c.in-None.is ∙ (c.position_of.ensures ∙ ap (position_of c.args.key.now 0) c.deref.ensures.value)) refl

use Rattle.std.proofs.Common.{◌∙◌, ap}
use Rattle.tenant_hub.specs.Hubs.{hub_view}
use Rattle.tenant_hub.specs.KeyedRegistries.{keyed_view}
use Rattle.tenant_hub.proofs.Positions.{same_views}
use Rattle.tenant_hub.proofs.hub.Hub.give_back.Goals as goal

pub loop-place-preserved : goal.loop-place-preserved
unfolding hub_view
loop-place-preserved c =
    same_views c.loop-place.self.registries.items c.loop-place.place c.index_mut.result.now c.unlink.new.self
    (c.unlink.ensures ∙ ap keyed_view c.index_mut.ensures.value) ∙ c.loop-place.invariant

pub returns : goal.returns
unfolding hub_view
returns c = c.loop-place.invariant

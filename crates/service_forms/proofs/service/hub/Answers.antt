use Rattle.std.proofs.lemmas.Result.{IfOk-weaker}
use Rattle.tenant_hub.specs.Hubs.{hub_view}
use Rattle.tenant_hub.specs.declared.hub.Hub.{Hub}
use Rattle.service_forms.proofs.Judged.{made_over, refused_over}
use Rattle.service_forms.proofs.service.hub.Goals as goal

pub returns-clause-ok : goal.returns-clause-ok
returns-clause-ok c = IfOk-weaker c.hub_of.result _ _
    (λ h made. made_over _ _ _ _ c.args.capacity (hub_view h) c.as_slice.ensures.value c.batch.ensures made) c.hub_of.ensures.ok

pub returns-clause-err : goal.returns-clause-err
returns-clause-err c = refused_over Hub _ _ _ _ c.args.capacity c.hub_of.result c.as_slice.ensures.value c.batch.ensures c.hub_of.ensures.err

use Rattle.faults.specs.View.{fault_view}
use Rattle.tenant_hub.specs.RefusedServers.{batch_view}
use Rattle.tenant_hub.specs.declared.hub.Hub.{Hub}
use Rattle.http_front.proofs.Libraries.{over_refused, unread_server}
use Rattle.http_front.proofs.servers.hub_of.Goals as goal

pub returns-in-Err-clause-err : goal.returns-in-Err-clause-err
returns-in-Err-clause-err c = λ other. unread_server c.args.tenants.now c.args.capacity (fault_view c.in-Err.fault) (batch_view c.args.library) (c.in-Err.ensures.err other)

pub returns-in-Ok-clause-err : goal.returns-in-Ok-clause-err
returns-in-Ok-clause-err c =
    over_refused Hub c.args.tenants.now c.args.capacity _ (batch_view c.args.library) c.new.result c.in-Ok.ensures.ok c.new.ensures.err

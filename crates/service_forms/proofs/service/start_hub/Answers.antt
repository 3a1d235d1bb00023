use Rattle.tenant_hub.specs.Hubs.{hub_view}
use Rattle.service_forms.proofs.Judged.{refused_start}
use Rattle.service_forms.proofs.Restored.{files_empty}
use Rattle.service_forms.proofs.service.start_hub.Goals as goal

pub returns-in-Ok-clause-empty : goal.returns-in-Ok-clause-empty
returns-in-Ok-clause-empty c = files_empty c.new_servers_have_no_documents.ensures c.args.sources.now c.args.capacity (hub_view c.in-Ok.hub) c.in-Ok.ensures.ok

pub returns-in-Err-clause-err : goal.returns-in-Err-clause-err
returns-in-Err-clause-err c = refused_start c.in-Err.fault c.args.sources.now c.args.capacity c.in-Err.ensures.err

use Rattle.tenant_documents.proofs.KeptRegistries.{registry_kept}
use Rattle.tenant_documents.proofs.registry.Registry.kept.Goals as goal

pub returns : goal.returns
returns c = registry_kept c.args.self.now

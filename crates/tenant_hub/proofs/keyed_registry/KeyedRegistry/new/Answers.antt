use Rattle.linker.specs.ListedDocuments.{listed_documents}
use Rattle.tenant_documents.specs.Registries.{registry_view, quotas}
use Rattle.tenant_hub.proofs.RegisteredDocuments.{first_registered}
use Rattle.tenant_hub.proofs.keyed_registry.KeyedRegistry.new.Goals as goal

pub invariant_of-result : goal.invariant_of-result
invariant_of-result c = record {
  registered =
      first_registered (registry_view c.new-2.result) (listed_documents c.args.library.value) (quotas c.args.tenant.documents c.args.tenant.bytes)
      c.new-2.ensures c.args.library.value.ascend c.requires;
  linked = c.in_ok-links.ensures _;
}

use Rattle.std.proofs.Common.{◌∙◌, ap, map}
use Rattle.linker.specs.ListedDocuments.{listed_documents}
use Rattle.tenants_file.specs.Tenants.{tenant_view}
use Rattle.tenant_hub.specs.Hubs.{hub_view}
use Rattle.tenant_hub.specs.KeyedRegistries.{new_registry}
use Rattle.tenant_hub.proofs.NewServers.{registries_made}
use Rattle.tenant_hub.proofs.hub.over_library.Goals as goal

pub returns-clause-ok : goal.returns-clause-ok
unfolding hub_view
returns-clause-ok c =
    registries_made (listed_documents c.args.library) c.args.tenants.items c.in_ok-registries.registries.items
    (c.in_ok-registries.ensures.ok ∙ ap (λ l. map (λ t. new_registry (listed_documents l) (tenant_view t)) c.args.tenants.items) c.in_ok-library.ensures.ok)

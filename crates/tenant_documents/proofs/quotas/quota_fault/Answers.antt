use Rattle.std.proofs.Common.{arith}
use Rattle.definitions.specs.Documents.{bytes_of}
use Rattle.tenant_documents.specs.Registries.{registry_view}
use Rattle.tenant_documents.proofs.QuotaFaults.{too_many, within_quotas, too_large}
use Rattle.tenant_documents.proofs.quotas.quota_fault.Goals as goal

pub returns-then-count-registry : goal.returns-then-count-registry
unfolding registry_view
returns-then-count-registry c = λ ds sized. too_many (registry_view c.args.registry.now) ds (omega (arith, sized.documents, c.if-count-registry.true))

pub returns-then-is_within : goal.returns-then-is_within
unfolding registry_view
returns-then-is_within c = λ ds sized.
    within_quotas (registry_view c.args.registry.now) ds (omega (arith, sized.documents, c.if-count-registry.false)) (c.if-is_within.ensures (bytes_of ds) sized.together)

pub returns-else-is_within : goal.returns-else-is_within
unfolding registry_view
returns-else-is_within c = λ ds sized.
    too_large (registry_view c.args.registry.now) ds (omega (arith, sized.documents, c.if-count-registry.false)) (c.if-is_within.ensures (bytes_of ds) sized.together)

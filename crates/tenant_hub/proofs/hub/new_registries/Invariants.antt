use Rattle.std.proofs.Common.{◌≡◌, ◌++◌, length, map}
use Rattle.std.specs.Vec.Iter.{into_iter_items, into_iter_len}
use Rattle.linker.specs.ListedDocuments.{listed_documents}
use Rattle.tenants_file.specs.Tenants.{tenant_view}
use Rattle.tenant_hub.specs.KeyedRegistries.{keyed_view, new_registry}
use Rattle.tenant_hub.proofs.hub.new_registries.Given as goal

abbrev pub invariant-loop-tenant : goal.invariant-loop-tenant
invariant-loop-tenant l = record {
  all : l.yielded ++ into_iter_items l.tenant-iterator ≡ into_iter_items l.initial.tenant-iterator;
  made : map keyed_view l.registries.items ≡ map (λ t. new_registry (listed_documents l.library.value) (tenant_view t)) l.yielded;
  left : into_iter_len l.tenant-iterator ≡ length (into_iter_items l.tenant-iterator);
}

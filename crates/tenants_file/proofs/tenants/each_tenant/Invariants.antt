use Rattle.std.proofs.Common.{◌≡◌, Some, map, take}
use Rattle.definitions.specs.Tenants.{tenant_in}
use Rattle.json_doc.specs.Docs.{value}
use Rattle.tenants_file.specs.Tenants.{tenant_view}
use Rattle.tenants_file.proofs.tenants.each_tenant.Given as goal

abbrev pub invariant-loop-item : goal.invariant-loop-item
invariant-loop-item l = map (λ d. tenant_in (value d)) (take l.item-index l.items) ≡ map (λ t. Some (tenant_view t)) l.tenants.items

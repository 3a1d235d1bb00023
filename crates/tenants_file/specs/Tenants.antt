-- Tenants as the definitions have them.
use Rattle.std.specs.Prelude.{ℕ, string_bytes}
use Rattle.std.specs.Borrow.{Bor}
use Rattle.definitions.specs.Tenants as meaning
use Rattle.definitions.specs.Values.{Text}
use Rattle.tenants_file.specs.declared.tenants.Tenant.{Tenant}

abbrev pub tenant_view : Tenant → meaning.Tenant
tenant_view t = record { key = string_bytes t.key; most_documents = t.documents; most_bytes = t.bytes }

-- its key, how many documents it may have, and how many bytes of them
abbrev pub listed_tenant_view : Bor Text × ℕ × ℕ → meaning.Tenant
listed_tenant_view t = record { key = t.0.now; most_documents = t.1; most_bytes = t.2 }

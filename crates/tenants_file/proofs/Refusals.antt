-- The fault of a new server, by its four tests.
use Rattle.std.proofs.Common.{◌≡◌, ◌++◌, ℕ, List, Bool, Option, map, not, nat_lt, length, string_bytes, ap, ◌∙◌}
use Rattle.std.proofs.lemmas.List.{length-map}
use Rattle.std.specs.List.{list_all}
use Rattle.definitions.specs.Caches.{is_capacity}
use Rattle.definitions.specs.Faults.{Fault, bad_capacity, too_many_tenants, bad_tenants, duplicate_tenant}
use Rattle.definitions.specs.Lists.{has_repeat, first, when}
use Rattle.definitions.specs.Tenants.{is_key, server_fault}
use Rattle.definitions.specs.Values.{same_text}
use Rattle.tenants_file.specs.Tenants.{tenant_view}
use Rattle.tenants_file.specs.declared.tenants.Tenant.{Tenant}
use Rattle.tenants_file.proofs.RepeatedKeys.{are_keys-view, keys-view}

abbrev fault_by : Bool → Bool → Bool → Bool → Option Fault
fault_by right many keys twice =
    first (when (not right) bad_capacity ++ (when many too_many_tenants ++ (when (not keys) bad_tenants ++ when twice duplicate_tenant)))

pub server_fault-is : (ts : List Tenant) (n : ℕ) (right many keys twice : Bool) → is_capacity n ≡ right → nat_lt 64 (length ts) ≡ many
    → list_all (λ t. is_key (string_bytes t.key)) ts ≡ keys → has_repeat same_text (map (λ t. string_bytes t.key) ts) ≡ twice
    → server_fault (map tenant_view ts) n ≡ fault_by right many keys twice
server_fault-is ts n right many keys twice r m k t =
    let ms = map tenant_view ts in
    ap (λ b. fault_by b (nat_lt 64 (length ms)) (list_all (λ t. is_key t.key) ms) (has_repeat same_text (map (λ t. t.key) ms))) r
    ∙ ap (λ b. fault_by right b (list_all (λ t. is_key t.key) ms) (has_repeat same_text (map (λ t. t.key) ms))) (ap (nat_lt 64) (length-map ts tenant_view) ∙ m)
    ∙ ap (λ b. fault_by right many b (has_repeat same_text (map (λ t. t.key) ms))) (are_keys-view ts ∙ k)
    ∙ ap (λ b. fault_by right many keys b) (ap (has_repeat same_text) (keys-view ts) ∙ t)

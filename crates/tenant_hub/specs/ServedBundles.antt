-- What a bundle is worth that a tenant is replied (JSON Schema 2020-12 Core, 9.3).
use Rattle.std.specs.Prelude.{◌≡◌, ◌<◌, ◌≤◌, List, [], Ok, Some, length}
use Rattle.definitions.specs.Patterns.{regular_search}
use Rattle.definitions.specs.Registries.{Registry, Reply, bundled, bundled_from, put, validate}
use Rattle.definitions.specs.Resolution.{base_form}
use Rattle.definitions.specs.Services.{KeyedRegistry, Call, registry_of}
use Rattle.definitions.specs.Steps.{step}
use Rattle.definitions.specs.Tenants.{Tenant, empty_registry}
use Rattle.definitions.specs.Values.{Text}

-- put under any URI into an empty registry that has room for it, and no library, the text gets each body the reply that the
-- tenant's registry gives it
unfoldable pub AnswersAlone : List KeyedRegistry → Call → Reply → Type 0
AnswersAlone before c r =
    (g : Registry) (uri bytes : Text) → registry_of before c.0 ≡ Some g → c.1 ≡ bundled_from uri → r ≡ bundled bytes
    → (t : Tenant) (at base body : Text) → base_form at ≡ Ok base → 0 < t.most_documents → length bytes ≤ t.most_bytes →
    let alone = (step regular_search (empty_registry [] t) (put at bytes)).1 in
    (step regular_search alone (validate uri body)).0 ≡ (step regular_search g (validate uri body)).0

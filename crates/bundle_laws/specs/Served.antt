-- A bundle that a registry replies answers alone as the registry does (JSON Schema 2020-12 Core, 9.3).
use Rattle.std.specs.Prelude.{◌≡◌, ◌<◌, ◌≤◌, [], Ok, length}
use Rattle.definitions.specs.Values.{Text}
use Rattle.definitions.specs.Resolution.{base_form}
use Rattle.definitions.specs.Registries.{Registry, documents_seen, put, validate, bundled_from, bundled}
use Rattle.definitions.specs.Searches.{Search}
use Rattle.definitions.specs.Steps.{step}
use Rattle.definitions.specs.Tenants.{Tenant, empty_registry}
use Rattle.bundle_laws.specs.Registered.{AreRegistered}

-- put under any URI into an empty registry that has room for it, and no library, it gets each body the reply that it gets there
abbrev pub RepliedBundlesAnswerTheSame : Type 0
RepliedBundlesAnswerTheSame =
    (search : Search) (g : Registry) (t : Tenant) (uri at base bytes body : Text) → AreRegistered search (documents_seen g)
    → (step search g (bundled_from uri)).0 ≡ bundled bytes → base_form at ≡ Ok base → 0 < t.most_documents → length bytes ≤ t.most_bytes →
    let alone = (step search (empty_registry [] t) (put at bytes)).1 in
    (step search alone (validate uri body)).0 ≡ (step search g (validate uri body)).0

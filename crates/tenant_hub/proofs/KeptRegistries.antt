-- What holds of the registry of each tenant.
use Rattle.std.proofs.Common.{◌≡◌, true, List, [], ◌∷◌, Bool, false, cond, Option, Some, map, string_bytes, subst}
use Rattle.definitions.specs.Keeping.{IsKept}
use Rattle.definitions.specs.Patterns.{regular_search}
use Rattle.definitions.specs.Registries as meaning
use Rattle.definitions.specs.Services.{registry_of}
use Rattle.definitions.specs.Values.{Text, same_text}
use Rattle.definition_laws.specs.Services.{AreAllKept}
use Rattle.lemmas.proofs.SomeValues.{none_some, some_same}
use Rattle.tenant_documents.proofs.KeptRegistries.{registry_kept}
use Rattle.tenant_hub.specs.KeyedRegistries.{keyed_view}
use Rattle.tenant_documents.specs.Registries.{registry_view}
use Rattle.tenant_hub.specs.declared.keyed_registry.KeyedRegistry.{KeyedRegistry}

-- ---- by a key
at_key : (P : meaning.Registry → Type 0) (b : Bool) (h g : meaning.Registry) (rest : Option meaning.Registry) → P h → (rest ≡ Some g → P g)
    → cond b (Some h) rest ≡ Some g → P g
at_key P true h g rest own more e = subst P (some_same e) own
at_key P false h g rest own more e = more e

pub each_registry : (P : meaning.Registry → Type 0) → ((k : KeyedRegistry) → P (registry_view k.registry)) → (ks : List KeyedRegistry) (key : Text) (g : meaning.Registry)
    → registry_of (map keyed_view ks) key ≡ Some g → P g
each_registry P each [] key g e = absurd (none_some e)
each_registry P each (k ∷ ks) key g e =
    at_key P (same_text key (string_bytes k.key)) (registry_view k.registry) g (registry_of (map keyed_view ks) key) (each k) (each_registry P each ks key g) e

pub all_kept : (ks : List KeyedRegistry) → AreAllKept regular_search (map keyed_view ks)
all_kept ks key g e = each_registry (IsKept regular_search) (λ k. registry_kept k.registry) ks key g e

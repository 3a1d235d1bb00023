-- What holds of the registries of every hub.
use Rattle.std.proofs.Common.{◌≡◌, List, [], ◌∷◌, Some, Contains}
use Rattle.definitions.specs.Documents.{documents_of_both}
use Rattle.definitions.specs.Keeping.{IsKept}
use Rattle.definitions.specs.Patterns.{regular_search}
use Rattle.definitions.specs.Registries.{Registry, documents_seen}
use Rattle.definitions.specs.Schemas.{Document}
use Rattle.definitions.specs.Services.{registry_of}
use Rattle.definitions.specs.Values.{Text}
use Rattle.definition_laws.specs.Keeping.{HaveBodyValues, HaveBaseForms}
use Rattle.definition_laws.specs.Services.{AreAllKept}
use Rattle.definition_laws.proofs.JoinedDocuments.{is_other, is_unequal}
use Rattle.definition_laws.proofs.Membership.{is_first, is_later}
use Rattle.definition_laws.proofs.PlacedDocuments.{in_placed}
use Rattle.tenant_documents.specs.Registries.{registry_view}
use Rattle.tenant_documents.proofs.KeptRegistries.{registry_kept}
use Rattle.tenant_hub.specs.Hubs.{hub_view}
use Rattle.tenant_hub.specs.declared.hub.Hub.{Hub}
use Rattle.tenant_hub.specs.declared.keyed_registry.KeyedRegistry.{KeyedRegistry}
use Rattle.tenant_hub.proofs.KeptRegistries.{all_kept, each_registry}
use Rattle.tenant_hub.proofs.ServedBundles.{keyed_registered}

pub hub_kept : (h : Hub) → AreAllKept regular_search (hub_view h)
unfolding hub_view
hub_kept h = all_kept h.registries.items

-- ---- its tenants' own documents are seen
own_in_both : (ls ds : List Document) (x : Document) → ((l : Document) → Contains ls l → x.canonical ≡ l.canonical → ⊥) → Contains ds x → Contains (documents_of_both ls ds) x
own_in_both [] ds x others c = c
own_in_both (l ∷ ls) ds x others c =
    in_placed l x (documents_of_both ls ds) (others l (is_first l ls)) (own_in_both ls ds x (λ m d. others m (is_later l m ls d)) c)

own_seen : (g : Registry) → IsKept regular_search g → (d : Document) → Contains g.documents d → Contains (documents_seen g) d
own_seen g kept d c =
    own_in_both g.library g.documents d (λ l inside. is_unequal d.canonical l (is_other g.library d.canonical l (kept.apart d c) inside)) c

keyed_bodies : (k : KeyedRegistry) → HaveBodyValues (registry_view k.registry).documents × HaveBaseForms (registry_view k.registry).documents
keyed_bodies k =
    let seen = own_seen (registry_view k.registry) (registry_kept k.registry) in
    let r = keyed_registered k in
    (λ d c. r.body_values d (seen d c), λ d c. r.base_forms d (seen d c))

pub hub_bodies : (h : Hub) (key : Text) (g : Registry) → registry_of (hub_view h) key ≡ Some g → HaveBodyValues g.documents × HaveBaseForms g.documents
unfolding hub_view
hub_bodies h key g e = each_registry (λ i. HaveBodyValues i.documents × HaveBaseForms i.documents) keyed_bodies h.registries.items key g e

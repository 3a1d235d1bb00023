-- A bundle that a tenant is replied answers alone.
use Rattle.std.proofs.Common.{◌≡◌, List, Some, map, sym, ap, subst, ◌∙◌, inl, inr}
use Rattle.definitions.specs.Patterns.{regular_search}
use Rattle.definitions.specs.Registries.{Registry, Request, Reply, documents_seen, bundled}
use Rattle.definitions.specs.Runs.{IsForRoom}
use Rattle.definitions.specs.Services as meaning
use Rattle.definitions.specs.Services.{registry_of, call_at, IsCallAnswer}
use Rattle.definitions.specs.Steps.{step}
use Rattle.definitions.specs.Values.{Text}
use Rattle.bundle_laws.specs.Registered.{AreRegistered}
use Rattle.bundle_laws.proofs.ServedBundles.{replied_bundles_answer_the_same}
use Rattle.tenant_hub.specs.KeyedRegistries.{keyed_view}
use Rattle.tenant_documents.specs.Registries.{registry_view}
use Rattle.tenant_hub.specs.ServedBundles.{AnswersAlone}
use Rattle.tenant_hub.specs.declared.keyed_registry.KeyedRegistry.{KeyedRegistry}
use Rattle.tenant_documents.proofs.KeptRegistries.{registry_kept}
use Rattle.tenant_hub.proofs.KeptRegistries.{each_registry}
use Rattle.tenant_hub.proofs.RegisteredDocuments.{are_registered}

pub keyed_registered : (k : KeyedRegistry) → AreRegistered regular_search (documents_seen (registry_view k.registry))
keyed_registered k = are_registered regular_search (documents_seen (registry_view k.registry)) (registry_kept k.registry).seen k.registered

-- no bundle is a refusal for room
not_for_room : (q : Request) (bytes : Text) → IsForRoom regular_search q (bundled bytes) → ⊥
not_for_room q bytes (inl e) = cc
not_for_room q bytes (inr (inl s)) = let e = s.0 in cc
not_for_room q bytes (inr (inr s)) = let e = s.1 in cc

replied : (ks ls : List meaning.KeyedRegistry) (key : Text) (q : Request) (r : Reply) (g : Registry) (bytes : Text) → registry_of ks key ≡ Some g → r ≡ bundled bytes
    → IsCallAnswer regular_search ks (key, q) r ls → (step regular_search g q).0 ≡ bundled bytes
replied ks ls key q r g bytes is made (inl s) = sym (ap (λ o. (call_at regular_search ks (key, q) o).0) is) ∙ sym s.0 ∙ made
replied ks ls key q r g bytes is made (inr s) = absurd (not_for_room q bytes (subst (IsForRoom regular_search q) made s.1))

pub answers_alone : (ks : List KeyedRegistry) (ls : List meaning.KeyedRegistry) (key : Text) (q : Request) (r : Reply)
    → IsCallAnswer regular_search (map keyed_view ks) (key, q) r ls → AnswersAlone (map keyed_view ks) (key, q) r
unfolding AnswersAlone
answers_alone ks ls key q r answer g uri bytes is asks made t at base body form few small =
    replied_bundles_answer_the_same regular_search g t uri at base bytes body
    (each_registry (λ h. AreRegistered regular_search (documents_seen h)) keyed_registered ks key g is)
    (ap (λ p. (step regular_search g p).0) (sym asks) ∙ replied (map keyed_view ks) ls key q r g bytes is made answer)
    form few small

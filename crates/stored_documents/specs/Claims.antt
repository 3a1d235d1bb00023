-- Which document claims the URI of a resource.
use Rattle.std.proofs.Common.{◌≡◌, ◌⊎◌, List, [], ◌∷◌, Option, Some, true, cond, map, flat_map, Contains, is_some, option_map, string_bytes}
use Rattle.std.proofs.Props.{props}
use Rattle.std.specs.BTreeMap.{BTreeMap, get_by_text}
use Rattle.std.specs.Global.{Global}
use Rattle.std.specs.declared.rc.Rc.{Rc}
use Rattle.std.specs.declared.string.String.{String}
use Rattle.definitions.specs.Documents.{resources_of}
use Rattle.definitions.specs.Reach.{holds_resource}
use Rattle.definitions.specs.Schemas.{Document}
use Rattle.definitions.specs.Values.{Text, same_text}
use Rattle.stored_documents.specs.StoredDocuments.{stored_view}
use Rattle.stored_documents.specs.declared.stored.Stored.{Stored}

-- the canonical URI of the document that claims the URI
unfoldable pub claim_of : BTreeMap (String Global) (Rc Stored Global) → Text → Option Text
claim_of claims uri = option_map (λ s. (stored_view s.value).canonical) (get_by_text claims uri)

-- each resource's URI is claimed by the document that has it; others may be claimed, too
unfoldable pub AreClaimed : BTreeMap (String Global) (Rc Stored Global) → List Document → Type 0
AreClaimed claims ds = (d : Document) → Contains ds d → (uri : Text) → holds_resource uri d ≡ true → claim_of claims uri ≡ Some d.canonical

pub AreClaimed-prop : (claims : BTreeMap (String Global) (Rc Stored Global)) (ds : List Document) → IsProp (AreClaimed claims ds)
unfolding AreClaimed
AreClaimed-prop claims ds = hlevel props

-- whatever is claimed was claimed before, or is one of these URIs
unfoldable pub ClaimsOnly : BTreeMap (String Global) (Rc Stored Global) → List Text → BTreeMap (String Global) (Rc Stored Global) → Type 0
ClaimsOnly before uris after = (uri : Text) → is_some (claim_of after uri) ≡ true → (is_some (claim_of before uri) ≡ true) ⊎ Contains uris uri

-- ---- claims to be made: URIs, each with the canonical URI of the document that claims it
unfoldable pub claims_in : List (String Global × Rc Stored Global) → List (Text × Text)
claims_in ps = map (λ p. (string_bytes p.0, (stored_view p.1.value).canonical)) ps

unfoldable pub claimed_uris : List (String Global × Rc Stored Global) → List Text
claimed_uris ps = map (λ p. string_bytes p.0) ps

unfoldable pub own_claims : Document → List (Text × Text)
own_claims d = map (λ u. (u, d.canonical)) (resources_of d)

unfoldable pub claims_of : List Document → List (Text × Text)
claims_of ds = flat_map own_claims ds

-- the claim of the URI, instead of this one, once those are made
abbrev pub last_claim : Text → List (Text × Text) → Text → Text
last_claim uri [] claim = claim
last_claim uri (p ∷ ps) claim = last_claim uri ps (cond (same_text p.0 uri) p.1 claim)

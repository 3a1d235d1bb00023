-- Claims that no document stands for.
use Rattle.std.proofs.Common.{◌≡◌, true, None, List, Contains, find, is_some}
use Rattle.std.proofs.Props.{props}
use Rattle.definitions.specs.Reach.{holds_resource}
use Rattle.definitions.specs.Values.{Text}
use Rattle.stored_documents.specs.Claims.{claim_of}
use Rattle.stored_documents.specs.DocumentLists.{documents_in}
use Rattle.stored_documents.specs.declared.documents.Documents.{Documents}

-- the URI is claimed, and no document has a resource of it
unfoldable pub IsStale : Documents → Text → Type 0
IsStale d uri = (is_some (claim_of d.claims uri) ≡ true) × (find (holds_resource uri) (documents_in d) ≡ None)

unfoldable pub NoneIsStale : Documents → Type 0
NoneIsStale d = (uri : Text) → ¬ IsStale d uri

pub NoneIsStale-prop : (d : Documents) → IsProp (NoneIsStale d)
unfolding NoneIsStale
NoneIsStale-prop d = hlevel props

-- what is stale was so before
unfoldable pub StaysFresh : Documents → Documents → Type 0
StaysFresh before after = (uri : Text) → IsStale after uri → IsStale before uri

pub none_stale_later : (before after : Documents) → StaysFresh before after → NoneIsStale before → NoneIsStale after
unfolding NoneIsStale StaysFresh
none_stale_later before after stays none uri stale = none uri (stays uri stale)

-- what is stale was so before, and is none of these URIs
unfoldable pub Releases : Documents → List Text → Documents → Type 0
Releases before uris after = (uri : Text) → IsStale after uri → IsStale before uri × ¬ Contains uris uri

-- What a source of documents holds.
use Rattle.std.specs.Prelude.{◌&&◌, List, Bool, length, nat_lt}
use Rattle.std.specs.List.{list_any}
use Rattle.definitions.specs.Schemas.{Document}
use Rattle.definitions.specs.Reach.{holds_resource}
use Rattle.definitions.specs.Documents.{resources_of}
use Rattle.definitions.specs.Values.{Text}

-- some resource of the document is held by one of these
unfoldable pub shares_resource : List Document → Document → Bool
shares_resource ds d = list_any (λ uri. list_any (holds_resource uri) ds) (resources_of d)

-- the document has several resources, one of them with this URI
unfoldable pub embeds : Text → Document → Bool
embeds uri d = nat_lt 1 (length (resources_of d)) && holds_resource uri d

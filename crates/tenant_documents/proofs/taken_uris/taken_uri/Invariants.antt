use Rattle.std.proofs.Common.{◌≡◌, take, filter, option_map, map, string_bytes}
use Rattle.std.specs.List.{list_any}
use Rattle.definitions.specs.Documents.{others_of}
use Rattle.definitions.specs.Reach.{holds_resource, least}
use Rattle.definitions.specs.Registries.{documents_seen}
use Rattle.stored_documents.specs.StoredDocuments.{stored_view}
use Rattle.tenant_documents.specs.Registries.{registry_view}
use Rattle.tenant_documents.proofs.taken_uris.taken_uri.Given as goal

abbrev pub invariant-loop-uri : goal.invariant-loop-uri
invariant-loop-uri l =
    option_map (λ t. t.now) l.least
    ≡ least (filter (λ u. list_any (holds_resource u) (others_of (stored_view l.document).canonical (documents_seen (registry_view l.registry)))) (map string_bytes (take l.uri-index l.uri-items)))

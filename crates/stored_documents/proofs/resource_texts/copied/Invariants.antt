use Rattle.std.proofs.Common.{◌≡◌, map, take, string_bytes}
use Rattle.stored_documents.proofs.resource_texts.copied.Given as goal

abbrev pub invariant-loop-uri : goal.invariant-loop-uri
invariant-loop-uri l = map string_bytes l.copies.items ≡ map string_bytes (take l.uri-index l.uris)

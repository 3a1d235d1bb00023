use Rattle.std.proofs.Common.{map, take, string_bytes}
use Rattle.stored_documents.specs.TextSets.{IsSetOf}
use Rattle.stored_documents.proofs.resource_texts.text_set.Given as goal

abbrev pub invariant-loop-uri : goal.invariant-loop-uri
invariant-loop-uri l = IsSetOf l.set (map string_bytes (take l.uri-index l.uris))

use Rattle.std.proofs.Common.{◌≡◌, map, take, string_bytes}
use Rattle.stored_documents.specs.DocumentLists.{documents_in}
use Rattle.stored_documents.specs.StaleClaims.{Releases}
use Rattle.stored_documents.proofs.documents.Documents.release_document.Given as goal

abbrev pub invariant-loop-uri : goal.invariant-loop-uri
invariant-loop-uri l = record {
  same : documents_in l.self ≡ documents_in l.initial.self;
  released : Releases l.initial.self (map string_bytes (take l.uri-index l.uri-items)) l.self;
}

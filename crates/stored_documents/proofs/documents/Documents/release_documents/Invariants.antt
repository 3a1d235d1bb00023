use Rattle.std.proofs.Common.{◌≡◌, take}
use Rattle.definitions.specs.Documents.{resource_uris_of}
use Rattle.stored_documents.specs.DocumentLists.{documents_in}
use Rattle.stored_documents.specs.SharedStored.{stored_documents}
use Rattle.stored_documents.specs.StaleClaims.{Releases}
use Rattle.stored_documents.proofs.documents.Documents.release_documents.Given as goal

abbrev pub invariant-loop-document : goal.invariant-loop-document
invariant-loop-document l = record {
  same : documents_in l.self ≡ documents_in l.initial.self;
  released : Releases l.initial.self (resource_uris_of (stored_documents (take l.document-index l.documents))) l.self;
}

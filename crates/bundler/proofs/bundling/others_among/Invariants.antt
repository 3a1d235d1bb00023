use Rattle.std.proofs.Common.{◌≡◌, map, take}
use Rattle.definitions.specs.Documents.{others_of}
use Rattle.linker.specs.LinkedDocuments.{linked_uri}
use Rattle.linker.specs.SharedDocuments.{shared_documents}
use Rattle.bundler.specs.Constituents.{bare_document, constituent_view}
use Rattle.bundler.proofs.bundling.others_among.Given as goal

abbrev pub invariant-loop-document : goal.invariant-loop-document
invariant-loop-document l = map constituent_view l.others.items ≡ map bare_document (others_of (linked_uri l.linked) (shared_documents (take l.document-index l.document-items)))

use Rattle.std.proofs.Common.{◌≡◌, drop, find, map, string_bytes}
use Rattle.schema_scan.specs.CompiledDocuments.{compiled_view}
use Rattle.file_checks.specs.FileSources.{file_documents}
use Rattle.file_checks.specs.FileTexts.{is_held, shared_uri}
use Rattle.file_checks.proofs.documents.FileDocuments.shared_uri.Given as goal

abbrev pub invariant-loop-uri : goal.invariant-loop-uri
invariant-loop-uri l =
    find (is_held (file_documents l.self)) (map string_bytes (drop l.uri-index l.uri-items)) ≡ shared_uri (file_documents l.self) (compiled_view l.document)

use Rattle.std.proofs.Common.{◌≡◌, Bor, map, string_bytes, take}
use Rattle.file_checks.specs.FileSources.{file_documents}
use Rattle.file_checks.specs.FileTexts.{dangling_among}
use Rattle.definitions.specs.Values.{Text}
use Rattle.file_checks.proofs.documents.FileDocuments.dangling_references.Given as goal

abbrev pub invariant-loop-reference : goal.invariant-loop-reference
invariant-loop-reference l =
    map (λ (t : Bor Text). t.now) l.dangling.items
    ≡ dangling_among (file_documents l.self) (map string_bytes (take l.reference-index l.reference-items))

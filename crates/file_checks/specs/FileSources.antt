-- What documents of files show.
use Rattle.std.specs.Prelude.{List}
use Rattle.definitions.specs.Schemas.{Document}
use Rattle.linker.specs.ListedDocuments.{listed_documents}
use Rattle.linker.specs.declared.linked.Linked.{Linked}
use Rattle.file_checks.specs.declared.documents.FileDocuments.{FileDocuments}
use Rattle.file_checks.specs.declared.checker.Checker.{Checker}

abbrev pub file_documents : FileDocuments → List Document
file_documents d = listed_documents d.source

-- what a checker checks by
abbrev pub checker_linked : Checker → Linked
checker_linked c = c.linked.now

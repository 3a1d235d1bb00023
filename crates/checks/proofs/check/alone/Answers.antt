use Rattle.std.proofs.Common.{ap, ◌∙◌, [], ◌∷◌}
use Rattle.schema_scan.specs.CompiledDocuments.{compiled_view}
use Rattle.linker.specs.ListedDocuments.{listed_documents}
use Rattle.checks.proofs.Alone.{added_first}
use Rattle.checks.proofs.check.alone.Goals as goal

pub returns-clause-ok : goal.returns-clause-ok
returns-clause-ok c =
    added_first (compiled_view c.in_ok-new.field-0.value) (listed_documents c.new-source.result) (listed_documents c.add.new.self) c.in_ok-add.field-0
    c.new-source.ensures c.in_ok-add.ensures.ok c.in_ok-add.ensures.added
    ∙ ap (λ d. compiled_view d ∷ []) c.in_ok-new.ensures.ok

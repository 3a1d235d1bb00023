use Rattle.std.proofs.Common.{[], subst, sym, ap₂, ◌∙◌}
use Rattle.definitions.specs.Scanning.{scan_fault}
use Rattle.schema_table.specs.Gathering.{IsTableOf}
use Rattle.schema_table.specs.Spots.{spots}
use Rattle.schema_scan.proofs.compiling.compile.Goals as goal

pub of-requires-clause-faultless : goal.of-requires-clause-faultless
of-requires-clause-faultless c = ap₂ scan_fault c.into_table-base.ensures.base c.document-document.ensures.value ∙ c.document-document.ensures.faultless

pub of-requires-clause-of_document : goal.of-requires-clause-of_document
of-requires-clause-of_document c = subst (IsTableOf c.into_table-base.result.1)
    (sym (ap₂ (spots [] 0) c.into_table-base.ensures.base c.document-document.ensures.value)) c.into_table-base.ensures.table

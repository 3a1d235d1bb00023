use Rattle.std.proofs.Common.{arith}
use Rattle.std.proofs.lemmas.Result.{err_from_is_err_and}
use Rattle.linker.specs.SharedDocuments.{shared_documents}
use Rattle.schema_scan.specs.CompiledDocuments.{compiled_view}
use Rattle.tenants_file.specs.Entries.{entry_view}
use Rattle.tenant_documents.proofs.EnteredDocuments.{entered_to_end, refused_there}
use Rattle.tenant_documents.proofs.library_entries.compiled_entries.Goals as goal

pub returns-in_err-compiled_entry-clause-err : goal.returns-in_err-compiled_entry-clause-err
returns-in_err-compiled_entry-clause-err c =
    let p = err_from_is_err_and c.from_residual-in_err-compiled_entry.result c.from_residual-in_err-compiled_entry.ensures.1 in
    rw (p.1, p.2) (λ other. (
      c.loop-entry.entry-index,
      refused_there entry_view (λ d. compiled_view d.value) c.loop-entry.entry-index c.args.entries.now c.loop-entry.documents.items
          c.entry-item.result _ c.loop-entry-test.true c.entry-item.is c.loop-entry.invariant (c.in_err-compiled_entry.ensures.err other),
    ))

pub returns-clause-ok : goal.returns-clause-ok
unfolding shared_documents
returns-clause-ok c =
    entered_to_end entry_view (λ d. compiled_view d.value) c.args.entries.now c.loop-entry.documents.items c.loop-entry.entry-index
    (omega arith) c.loop-entry.invariant

use Rattle.std.proofs.Common.{◌≢◌, ℕ, List, Result, Ok, Err, IfOk, map, arith}
use Rattle.definitions.specs.Batches.{Entry}
use Rattle.faults.specs.View.{fault_view}
use Rattle.faults.specs.declared.Fault.{Fault}
use Rattle.faults.specs.declared.Fault.TheVariants.{NoRoom}
use Rattle.stored_documents.specs.SharedStored.{stored_documents}
use Rattle.stored_documents.specs.StoredDocuments.{stored_view}
use Rattle.tenants_file.specs.Entries.{entry_view}
use Rattle.tenant_documents.specs.Batches.{IsEntered, IsRefusal}
use Rattle.tenant_documents.specs.EntryRefusals.{IsRefusedAt}
use Rattle.tenant_documents.specs.declared.batch_entries.EnteredBatch.{EnteredBatch}
use Rattle.tenant_documents.proofs.EnteredDocuments.{entered_to_end, refused_there}
use Rattle.tenant_documents.proofs.batch_entries.entered.Goals as goal

refused_so : (r : Result EnteredBatch Fault) (all : List Entry) (n : ℕ) (why : Fault)
    → IfOk r (λ e. IsRefusal n why e)
    → (why ≢ NoRoom → IsRefusedAt all n (fault_view why)) → IfOk r (λ e. IsEntered all e)
refused_so (Ok e) all n why h there = h all there
refused_so (Err f) all n why h there = tt

pub returns-in-Err-clause-ok : goal.returns-in-Err-clause-ok
returns-in-Err-clause-ok c =
    refused_so c.refused.result (map entry_view c.args.entries.now) c.loop-number.number c.in-Err.why c.refused.ensures.ok
    (λ other. refused_there entry_view (λ s. stored_view s.value) c.loop-number.number c.args.entries.now c.loop-number.documents.items
    c.index-entries-number.result (fault_view c.in-Err.why) c.loop-number-test.true c.index-entries-number.is c.loop-number.invariant (c.in-Err.ensures.err other))

pub returns-clause-ok : goal.returns-clause-ok
unfolding stored_documents
returns-clause-ok c =
    entered_to_end entry_view (λ s. stored_view s.value) c.args.entries.now c.loop-number.documents.items c.loop-number.number
    (omega arith) c.loop-number.invariant

use Rattle.std.proofs.lemmas.Result.{err_from_is_err_and}
use Rattle.definitions.specs.Patterns.{regular_search}
use Rattle.definitions.specs.Registries.{batch, refused}
use Rattle.definitions.specs.Runs.{IsAnswer}
use Rattle.faults.specs.View.{fault_view}
use Rattle.json_doc.specs.Docs.{value}
use Rattle.tenant_documents.specs.Registries.{registry_view}
use Rattle.tenant_documents.proofs.AnsweredBatches.{bad_body_of_batch, no_batch, no_room_for_batch}
use Rattle.tenant_documents.proofs.Refusals.{for_each_fault}
use Rattle.tenant_documents.proofs.registry.Registry.stored_together.Goals as goal

pub returns-in_err-batch-clause-err : goal.returns-in_err-batch-clause-err
returns-in_err-batch-clause-err c =
    let p = err_from_is_err_and c.from_residual.result c.from_residual.ensures.1 in
    let g = registry_view c.args.self.now in
    let body = c.args.body.now in
    rw (p.1, p.2) (for_each_fault (λ f. IsAnswer regular_search g (batch body) (refused f) g) c.in_err-batch.field-0.0
    (λ other. bad_body_of_batch g body (fault_view c.in_err-batch.field-0.0) (c.in_err-batch.ensures.err other)) (no_room_for_batch g body))

pub returns-in_err-entries-clause-err : goal.returns-in_err-entries-clause-err
returns-in_err-entries-clause-err c =
    let p = err_from_is_err_and c.from_residual-in_err-entries.result c.from_residual-in_err-entries.ensures.1 in
    let g = registry_view c.args.self.now in
    let body = c.args.body.now in
    rw (p.1, p.2) (for_each_fault (λ f. IsAnswer regular_search g (batch body) (refused f) g) c.in_err-entries.field-0.0
    (λ other. no_batch g body (value c.in_ok-batch.batch) (fault_view c.in_err-entries.field-0.0) c.in_ok-batch.ensures.ok (c.in_err-entries.ensures.err other))
    (no_room_for_batch g body))

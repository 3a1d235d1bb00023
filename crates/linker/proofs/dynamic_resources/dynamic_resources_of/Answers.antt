use Rattle.std.proofs.Common.{◌||◌, is_some, take, ap, sym, ◌∙◌}
use Rattle.std.proofs.lemmas.List.{take_all}
use Rattle.definitions.specs.Schemas.{table_of}
use Rattle.definitions.specs.Targets.{schema_with_dynamic_anchor}
use Rattle.schema_scan.proofs.Named.{nothing-named}
use Rattle.schema_scan.specs.CompiledDocuments.{compiled_schemas, compiled_view}
use Rattle.linker.specs.SharedDocuments.{shared_documents}
use Rattle.linker.proofs.DynamicAnchors.{anchored_more}
use Rattle.linker.proofs.Shared.{shared_more}
use Rattle.linker.proofs.dynamic_resources.dynamic_resources_of.Goals as goal

pub loop-document-init : goal.loop-document-init
unfolding shared_documents
loop-document-init c = λ uri name. nothing-named c.new-resources.result c.new-resources.ensures.empty uri name

pub loop-document-preserved : goal.loop-document-preserved
loop-document-preserved c = λ uri name.
    let documents = c.args.documents.now in
    let i = c.loop-document.document-index in
    let before = shared_documents (take i documents) in
    let here = is_some (schema_with_dynamic_anchor (table_of before) uri name) in
    c.in_ok-add_dynamic_resources.ensures uri name
    ∙ ap (λ b. b || is_some (schema_with_dynamic_anchor (compiled_schemas c.deref.result.now) uri name)) (c.loop-document.invariant uri name)
    ∙ ap (λ d. here || is_some (schema_with_dynamic_anchor (compiled_schemas d) uri name)) c.deref.ensures
    ∙ sym (ap (λ ds. is_some (schema_with_dynamic_anchor (table_of ds) uri name)) (shared_more documents i c.document-item.result c.loop-document-test.true c.document-item.is)
    ∙ anchored_more before (compiled_view c.document-item.result.value) uri name)

pub returns : goal.returns
returns c = λ uri name.
    c.loop-document.invariant uri name
    ∙ ap (λ ds. is_some (schema_with_dynamic_anchor (table_of (shared_documents ds)) uri name)) (take_all c.loop-document.document-index c.args.documents.now c.loop-document-test.false)

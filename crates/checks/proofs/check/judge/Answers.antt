use Rattle.std.proofs.Common.{Ok, ◌∙◌}
use Rattle.std.proofs.lemmas.Result.{IfOk-weaker, IfErr-weaker}
use Rattle.definitions.specs.Reach.{reach}
use Rattle.evaluator.specs.Reports.{is_valid, report_text}
use Rattle.faults.specs.View.{fault_view}
use Rattle.json_doc.specs.Docs.{value}
use Rattle.linker.specs.LinkedDocuments.{linked_uri, linked_documents}
use Rattle.linker.specs.ListedDocuments.{listed_documents}
use Rattle.schema_scan.specs.CompiledDocuments.{compiled_base, compiled_value, compiled_view}
use Rattle.checks.proofs.Alone.{reached_alone, says, links_not, reports_fault}
use Rattle.checks.proofs.check.judge.Goals as goal

pub returns-in-Ok-clause-ok : goal.returns-in-Ok-clause-ok
returns-in-Ok-clause-ok c =
    let uri = c.as_str.ensures.value ∙ c.in_ok-uri.ensures.ok ∙ c.canonical.ensures in
    let alone = reached_alone (compiled_base c.args.document) (compiled_value c.args.document) (listed_documents c.in_ok-source.source) c.as_str.result.now c.in_ok-source.ensures.ok uri in
    IfOk-weaker c.evaluate.result _ _
    (λ r h. says (compiled_view c.args.document) (value c.args.instance.now) (reach (listed_documents c.in_ok-source.source) c.as_str.result.now) (linked_documents c.in-Ok.linked) (linked_uri c.in-Ok.linked) (Ok (is_valid r, report_text r))
    alone c.in-Ok.ensures.documents (c.in-Ok.ensures.uri ∙ uri) c.in-Ok.ensures.ok h)
    c.evaluate.ensures.ok

pub returns-in-Ok-clause-err : goal.returns-in-Ok-clause-err
returns-in-Ok-clause-err c =
    let uri = c.as_str.ensures.value ∙ c.in_ok-uri.ensures.ok ∙ c.canonical.ensures in
    let alone = reached_alone (compiled_base c.args.document) (compiled_value c.args.document) (listed_documents c.in_ok-source.source) c.as_str.result.now c.in_ok-source.ensures.ok uri in
    IfErr-weaker c.evaluate.result _ _
    (λ f h is_found. says (compiled_view c.args.document) (value c.args.instance.now) (reach (listed_documents c.in_ok-source.source) c.as_str.result.now) (linked_documents c.in-Ok.linked) (linked_uri c.in-Ok.linked) _
    alone c.in-Ok.ensures.documents (c.in-Ok.ensures.uri ∙ uri) c.in-Ok.ensures.ok (reports_fault _ (fault_view f) (h is_found)))
    c.evaluate.ensures.err

pub returns-clause-err : goal.returns-clause-err
returns-clause-err c =
    let uri = c.as_str.ensures.value ∙ c.in_ok-uri.ensures.ok ∙ c.canonical.ensures in
    let alone = reached_alone (compiled_base c.args.document) (compiled_value c.args.document) (listed_documents c.in_ok-source.source) c.as_str.result.now c.in_ok-source.ensures.ok uri in
    λ is_found. links_not (compiled_view c.args.document) (value c.args.instance.now) (reach (listed_documents c.in_ok-source.source) c.as_str.result.now) _ alone (c.in-Err.ensures.err is_found)

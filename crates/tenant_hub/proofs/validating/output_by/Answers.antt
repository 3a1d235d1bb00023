use Rattle.definitions.specs.Answers.{answer}
use Rattle.definitions.specs.Patterns.{has_match}
use Rattle.json_doc.specs.Docs.{value}
use Rattle.linker.specs.LinkedDocuments.{linked_uri, linked_documents}
use Rattle.tenant_hub.proofs.ValidationReplies.{refused_by, shown_by}
use Rattle.tenant_hub.proofs.validating.output_by.Goals as goal

pub returns-clause-ok : goal.returns-clause-ok
returns-clause-ok c =
    let l = c.args.linked.now in
    shown_by c.evaluate_output.result (answer has_match (linked_documents l) (linked_uri l) (value c.args.instance.now)) c.evaluate_output.ensures.ok

pub returns-clause-err : goal.returns-clause-err
returns-clause-err c =
    let l = c.args.linked.now in
    refused_by c.evaluate_output.result (answer has_match (linked_documents l) (linked_uri l) (value c.args.instance.now)) c.evaluate_output.ensures.err

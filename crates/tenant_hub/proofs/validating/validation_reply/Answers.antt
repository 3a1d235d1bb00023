use Rattle.output_texts.specs.Outputs.{output_view}
use Rattle.definitions.specs.Registries.{validate, validated, refused}
use Rattle.faults.specs.View.{fault_view}
use Rattle.tenant_hub.proofs.Refusals.{refusal}
use Rattle.tenant_hub.proofs.ValidationReplies.{validation_answer}
use Rattle.tenant_hub.proofs.validating.validation_reply.Goals as goal

pub returns-in-Ok-clause-answer : goal.returns-in-Ok-clause-answer
returns-in-Ok-clause-answer g c = λ r e.
    validation_answer r (g.S.Source.documents c.args.source.now) c.args.uri.now c.args.body.now (validated (output_view c.in-Ok.output).1) e c.in-Ok.ensures.ok

pub returns-in-Err-clause-answer : goal.returns-in-Err-clause-answer
returns-in-Err-clause-answer g c = λ r e.
    refusal r (validate c.args.uri.now c.args.body.now) c.in-Err.fault (λ other.
    validation_answer r (g.S.Source.documents c.args.source.now) c.args.uri.now c.args.body.now (refused (fault_view c.in-Err.fault)) e (c.in-Err.ensures.err other))

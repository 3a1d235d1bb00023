use Rattle.std.proofs.Common.{◌∙◌, ap}
use Rattle.definitions.specs.Applied.{Outcome}
use Rattle.evaluation_log.specs.Logs.{log_view}
use Rattle.evaluation_log.specs.Notes.{notes_of_both, outcome_notes}
use Rattle.evaluator.proofs.OutcomeLaws.{deep_boolean, shallow_boolean}
use Rattle.evaluator.proofs.applying.Evaluation.apply_boolean.Goals as goal

pub returns-then-nesting-eq0-clause-valid : goal.returns-then-nesting-eq0-clause-valid
returns-then-nesting-eq0-clause-valid c a = ap (λ (o : Outcome). o.valid) (deep_boolean c.args.nesting a c.args.allowed c.if-nesting-eq0.true)

pub returns-then-nesting-eq0-clause-noted : goal.returns-then-nesting-eq0-clause-noted
returns-then-nesting-eq0-clause-noted c a s x e =
    c.count_too_deep.ensures ∙ ap (λ (o : Outcome). notes_of_both (log_view c.args.self.now.log) (outcome_notes o)) (deep_boolean c.args.nesting a c.args.allowed c.if-nesting-eq0.true)

pub returns-clause-valid : goal.returns-clause-valid
returns-clause-valid c a = ap (λ (o : Outcome). o.valid) (shallow_boolean c.args.nesting a c.args.allowed c.if-nesting-eq0.false)

pub returns-clause-noted : goal.returns-clause-noted
returns-clause-noted c a s x e =
    c.in_ok-note_boolean.ensures.noted a s x e
    ∙ ap (λ (o : Outcome). notes_of_both (log_view c.args.self.now.log) (outcome_notes o)) (shallow_boolean c.args.nesting a c.args.allowed c.if-nesting-eq0.false)

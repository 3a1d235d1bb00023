-- Schemas that are applied.
use Rattle.std.proofs.Common.{rules, ◌≡◌, ◌∙◌, sym, ap, subst, refl, arith, true, false, Some, None}
use Rattle.std.proofs.lemmas.Result.{IfErr-weaker}
use Rattle.definitions.specs.Applied.{Outcome, application_within, Application}
use Rattle.json_doc.specs.Docs.{value}
use Rattle.applicators.specs.Subjects.{subject_value}
use Rattle.evaluation_context.specs.Frames.{Frame, context_view, frame_standing}
use Rattle.evaluation_context.specs.Standings.{application_at}
use Rattle.evaluator.specs.Applying.{HasOutcome}
use Rattle.evaluator.specs.declared.halt.Halt.TheVariants as halt
use Rattle.evaluation_log.specs.Logs.{log_view}
use Rattle.evaluation_log.specs.Notes.{IsOver, notes_of_both, outcome_notes}
use Rattle.evaluator.specs.Rounds.{IsAt, linked_outcome, object_uses}
use Rattle.evaluation_log.proofs.CountLaws.{full_over}
use Rattle.evaluator.proofs.CombinedLaws.{counted_lengths, counted_noted, counted_over, entered_at}
use Rattle.evaluator.proofs.ObjectLaws.{object_by_groups}
use Rattle.definitions.specs.Outcomes.{is_running}
use Rattle.keyword_plans.specs.ObjectApplications.{linked_rules}
use Rattle.json_doc.specs.Kinds.{as_boolean}
use Rattle.evaluator.proofs.OutcomeLaws.{boolean_is, count_pos, outcome-running, outcome-zero, outcome-object}
use Rattle.evaluator.proofs.applying.Evaluation.+apply.Goals as goal

pub apply_object-returns-in_ok-settle_object-in-Ok-clause-outcome : goal.apply_object-returns-in_ok-settle_object-in-Ok-clause-outcome
apply_object-returns-in_ok-settle_object-in-Ok-clause-outcome t c a at =
    let l = c.args.self.now.linked.now in
    let s = value c.args.present.now.schema.now in
    let x = subject_value c.args.subject in
    let inner : IsAt l (context_view c.enter_object.new.self) s x (application_within a) =
    entered_at l (context_view c.args.self.now.context) (context_view c.enter_object.new.self) s x a at c.in_ok-enter_object.ensures.there in
    let n = log_view c.args.self.now.log in
    let mid = log_view c.count_one.new.self in
    let us = object_uses l c.args.nesting (application_within a) in
    let used = c.in-Ok.ensures.outcome (application_within a) inner in
    let back : context_view c.leave_object.new.self ≡ context_view c.args.self.now.context =
    c.leave_object.ensures.left (context_view c.args.self.now.context) (c.in-Ok.ensures.stays.back ∙ c.in_ok-enter_object.ensures.entered) in
    record {
      found = used.found ∙ ap (λ (o : Outcome). o.valid) (sym (object_by_groups l c.args.nesting a));
      noted =
          c.in_ok-settle_object-in-Ok.ensures.noted a n us (at.there ∙ ap (λ (f : Frame). application_at (frame_standing f) s x) (sym back))
          (c.mark-mark.ensures ∙ counted_lengths n mid c.count_one.ensures)
          (counted_noted a n mid (log_view c.use_keywords.new.self.log) us c.count_one.ensures used.noted)
          used.found
          ∙ ap (λ (o : Outcome). notes_of_both n (outcome_notes o)) (sym (object_by_groups l c.args.nesting a));
      err = tt;
    }

pub apply_object-returns-in_err-settle_object-in-Ok-clause-outcome : goal.apply_object-returns-in_err-settle_object-in-Ok-clause-outcome
apply_object-returns-in_err-settle_object-in-Ok-clause-outcome t c a at = record { found = search rules; noted = search rules; err = search rules }

pub apply_object-returns-in-Err-clause-outcome : goal.apply_object-returns-in-Err-clause-outcome
apply_object-returns-in-Err-clause-outcome t c a at =
    let l = c.args.self.now.linked.now in
    let s = value c.args.present.now.schema.now in
    let x = subject_value c.args.subject in
    let inner : IsAt l (context_view c.enter_object.new.self) s x (application_within a) =
    entered_at l (context_view c.args.self.now.context) (context_view c.enter_object.new.self) s x a at c.in_ok-enter_object.ensures.there in
    let n = log_view c.args.self.now.log in
    let us = object_uses l c.args.nesting (application_within a) in
    record {
      found = tt;
      noted = tt;
      err =
          λ other.
          let fault = (c.in-Err.ensures.outcome (application_within a) inner).err other in (
            fault.0,
            subst (λ (o : Outcome). IsOver n (outcome_notes o)) (sym (object_by_groups l c.args.nesting a)) (counted_over a n (log_view c.count_one.new.self) us c.count_one.ensures fault.1),
          );
    }

pub apply_object-returns-then-applies_nothing-clause-outcome : goal.apply_object-returns-then-applies_nothing-clause-outcome
apply_object-returns-then-applies_nothing-clause-outcome t c a at = c.apply_leaf.ensures.outcome a c.args.nesting at

pub apply-returns-then-is_full-clause-outcome : goal.apply-returns-then-is_full-clause-outcome
apply-returns-then-is_full-clause-outcome t c a at = record {
  found = tt;
  noted = tt;
  err =
      λ other.
      (refl, full_over c.args.self.now.log (linked_outcome c.args.self.now.linked.now c.args.nesting a) (c.is_full.ensures.full c.if-is_full.true) (count_pos (linked_rules c.args.self.now.linked.now) c.args.nesting a));
}

pub apply-returns-in-Some-clause-outcome : goal.apply-returns-in-Some-clause-outcome
apply-returns-in-Some-clause-outcome t c a at =
    let is : Some c.in-Some.allowed ≡ as_boolean a.schema.value = c.in-Some.ensures ∙ ap (λ (b : Application). as_boolean b.schema.value) (sym at.there) in
    subst (HasOutcome c.args.self.now c.apply_boolean.new.self c.apply_boolean.result) (boolean_is (linked_rules c.args.self.now.linked.now) c.args.nesting a c.in-Some.allowed is)
    (record {
      found = c.apply_boolean.ensures.valid a;
      noted = c.apply_boolean.ensures.noted a (value c.args.present.now.schema.now) (subject_value c.args.subject) at.there;
      err = IfErr-weaker c.apply_boolean.result (λ h. h ≡ halt.NoRoom) _ (λ h same other. absurd (other same)) c.apply_boolean.ensures.err;
    })

pub apply_other-returns-then-is_looping-clause-outcome : goal.apply_other-returns-then-is_looping-clause-outcome
apply_other-returns-then-is_looping-clause-outcome t c a at =
    let running : is_running a ≡ true = ap is_running at.there ∙ sym (c.is_looping.ensures (subject_value c.args.subject)) ∙ c.if-is_looping.true in
    rw (outcome-running (linked_rules c.args.self.now.linked.now) c.args.nesting a running) (record { found = refl; noted = c.count_loop.ensures; err = tt })

pub apply_other-returns-then-nesting-eq0-clause-outcome : goal.apply_other-returns-then-nesting-eq0-clause-outcome
apply_other-returns-then-nesting-eq0-clause-outcome t c a at =
    let running : is_running a ≡ false = ap is_running at.there ∙ sym (c.is_looping.ensures (subject_value c.args.subject)) ∙ c.if-is_looping.false in
    rw (outcome-zero (linked_rules c.args.self.now.linked.now) c.args.nesting a running c.if-nesting-eq0.true) (record { found = refl; noted = c.count_too_deep.ensures; err = tt })

pub apply_other-returns-clause-outcome : goal.apply_other-returns-clause-outcome
apply_other-returns-clause-outcome t c a at =
    let running : is_running a ≡ false = ap is_running at.there ∙ sym (c.is_looping.ensures (subject_value c.args.subject)) ∙ c.if-is_looping.false in
    let other : None ≡ as_boolean a.schema.value = sym c.requires.other ∙ ap (λ (b : Application). as_boolean b.schema.value) (sym at.there) in
    rw (outcome-object (linked_rules c.args.self.now.linked.now) c.args.nesting a running other (omega (arith, c.if-nesting-eq0.false))) (c.apply_object.ensures.outcome a at)

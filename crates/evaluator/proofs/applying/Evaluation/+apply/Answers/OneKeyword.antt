-- One keyword, and the schemas that it applies.
use Rattle.std.proofs.Common.{Ok, ◌≡◌, ◌∙◌, sym, ap, subst, Bor, refl, arith, codes, ◌∷◌, [], Contains}
use Rattle.definitions.specs.Values.{text_at}
use Rattle.json_doc.specs.Docs.{value}
use Rattle.keyword_plans.specs.ScopeViews.{scope_documents}
use Rattle.applicators.specs.Subjects.{subject_value}
use Rattle.evaluation_context.specs.Frames.{context_view, frame_standing}
use Rattle.evaluation_context.specs.Returns.{CameFrom}
use Rattle.evaluation_context.specs.Standings.{at_keyword}
use Rattle.evaluator.specs.Applying.{AreKnown, HasParts, HasUses, use_now}
use Rattle.evaluator.specs.Findings.{FindsAll}
use Rattle.evaluation_log.specs.Logs.{log_view}
use Rattle.evaluation_log.specs.Notes.{IsOver, notes_of_both, parts_notes, part_notes}
use Rattle.evaluation_log.specs.declared.log.Log.{Log}
use Rattle.evaluator.specs.Rounds.{IsAt, names_since, indexes_since, IsAtKeyword, IsKnown, part_outcomes, use_there, IsUnder, part_outcome}
use Rattle.linker.specs.declared.linked.Linked.{Linked}
use Rattle.std.proofs.lemmas.List.{take_all}
use Rattle.std.proofs.lemmas.Result.{on_ok_weaker}
use Rattle.evaluation_log.proofs.LogLaws.{added_nothing}
use Rattle.keywords.specs.Rows.{row_of}
use Rattle.evaluator.proofs.SettlingLaws.{at_keyword_of, use_over, use_passing}
use Rattle.evaluator.proofs.PlannedLaws.{none_found, passing_within, child_more, child_noted, child_over, planned_at}
use Rattle.applicators.specs.Plans.{planned_view}
use Rattle.evaluator.proofs.applying.Evaluation.+apply.Goals as goal

pub use_keyword-returns-in-Ok-clause-outcome : goal.use_keyword-returns-in-Ok-clause-outcome
use_keyword-returns-in-Ok-clause-outcome t c a used =
    let old = c.args.self.now in
    let l = old.linked.now in
    let left = c.args.nesting in
    let keyword = c.args.keyword in
    let k = (row_of keyword).name in
    let m = (row_of keyword).meaning in
    let s = value c.args.schema_use.now.present.now.schema.now in
    let x = subject_value c.args.schema_use.now.subject in
    let v = value c.args.keyword_value.now in
    let ps = c.in_ok-planned.planned.items in
    let same = c.in_ok-planned.ensures.linked in
    let plan = c.in_ok-planned.ensures.planned a left used in
    let there = c.in_ok-enter_keyword.ensures.there ∙ ap (λ frame. at_keyword k (frame_standing frame)) c.in_ok-planned.ensures.back in
    let standing = at_keyword_of l left (context_view old.context) (context_view c.enter_keyword.new.self) s x keyword v c.args.siblings a used.schema_use there used.knows used.valued in
    let names = names_since c.args.schema_use.now.before (log_view old.log) in
    let indexes = indexes_since c.args.schema_use.now.before (log_view old.log) in
    let applied = c.in-Ok.ensures.outcome a standing.under (subst (λ (b : Bor Linked). AreKnown b.now k a ps) (sym same) plan.known) in
    let finds = subst (FindsAll c.in-Ok.applied) plan.outcomes (subst (λ (b : Bor Linked). FindsAll c.in-Ok.applied (part_outcomes b.now left k a ps)) same applied.found) in
    let noted = subst (λ (b : Bor Linked). log_view c.apply_all.new.self.log ≡ notes_of_both (log_view c.plan_keyword.new.self.log) (parts_notes m (part_outcomes b.now left k a ps))) same applied.noted
    ∙ ap (λ log. notes_of_both (log_view log) (parts_notes m (part_outcomes l left k a ps))) c.in_ok-planned.ensures.noted
    ∙ ap (λ os. notes_of_both (log_view old.log) (parts_notes m os)) plan.outcomes in
    let finishing = subst (λ f. IsAtKeyword l left f s x keyword v c.args.siblings a) (sym c.in-Ok.ensures.stays.back) standing in
    let finished = subst (λ (b : Bor Linked). IsAtKeyword b.now left (context_view c.apply_all.new.self.context) s x keyword v c.args.siblings a
    → FindsAll c.in-Ok.applied (use_there b.now left a keyword names indexes v).outcomes
    → log_view c.apply_all.new.self.log ≡ notes_of_both (log_view old.log) (parts_notes m (use_there b.now left a keyword names indexes v).outcomes)
    → HasUses old c.finish_keyword.new.self c.finish_keyword.result a (use_there b.now left a keyword names indexes v ∷ [])) (c.in-Ok.ensures.stays.linked ∙ same)
    (λ at finds noted. c.finish_keyword.ensures.outcome a left names indexes old at finds c.mark-mark.ensures noted) in
    finished finishing finds noted

pub use_keyword-returns-in-Ok-clause-passing : goal.use_keyword-returns-in-Ok-clause-passing
use_keyword-returns-in-Ok-clause-passing t c a used =
    let old = c.args.self.now in
    let l = old.linked.now in
    let left = c.args.nesting in
    let keyword = c.args.keyword in
    let k = (row_of keyword).name in
    let m = (row_of keyword).meaning in
    let s = value c.args.schema_use.now.present.now.schema.now in
    let x = subject_value c.args.schema_use.now.subject in
    let v = value c.args.keyword_value.now in
    let ps = c.in_ok-planned.planned.items in
    let same = c.in_ok-planned.ensures.linked in
    let plan = c.in_ok-planned.ensures.planned a left used in
    let there = c.in_ok-enter_keyword.ensures.there ∙ ap (λ frame. at_keyword k (frame_standing frame)) c.in_ok-planned.ensures.back in
    let standing = at_keyword_of l left (context_view old.context) (context_view c.enter_keyword.new.self) s x keyword v c.args.siblings a used.schema_use there used.knows used.valued in
    let applied = c.in-Ok.ensures.outcome a standing.under (subst (λ (b : Bor Linked). AreKnown b.now k a ps) (sym same) plan.known) in
    let finds = subst (FindsAll c.in-Ok.applied) plan.outcomes (subst (λ (b : Bor Linked). FindsAll c.in-Ok.applied (part_outcomes b.now left k a ps)) same applied.found) in
    on_ok_weaker c.finish_keyword.result (λ is. use_passing c.finish_keyword.new.self.passing c.in-Ok.applied (use_now old c.args.schema_use.now keyword v left a) is finds) c.finish_keyword.ensures.passing

pub use_keyword-returns-in-Err-clause-outcome : goal.use_keyword-returns-in-Err-clause-outcome
use_keyword-returns-in-Err-clause-outcome t c a used =
    let old = c.args.self.now in
    let l = old.linked.now in
    let left = c.args.nesting in
    let keyword = c.args.keyword in
    let k = (row_of keyword).name in
    let m = (row_of keyword).meaning in
    let s = value c.args.schema_use.now.present.now.schema.now in
    let x = subject_value c.args.schema_use.now.subject in
    let v = value c.args.keyword_value.now in
    let ps = c.in_ok-planned.planned.items in
    let same = c.in_ok-planned.ensures.linked in
    let plan = c.in_ok-planned.ensures.planned a left used in
    let there = c.in_ok-enter_keyword.ensures.there ∙ ap (λ frame. at_keyword k (frame_standing frame)) c.in_ok-planned.ensures.back in
    let standing = at_keyword_of l left (context_view old.context) (context_view c.enter_keyword.new.self) s x keyword v c.args.siblings a used.schema_use there used.knows used.valued in
    let n = log_view old.log in
    let halted = c.in-Err.ensures.outcome a standing.under (subst (λ (b : Bor Linked). AreKnown b.now k a ps) (sym same) plan.known) in
    record {
      found = tt;
      noted = tt;
      err =
          λ other.
          let fault = halted.err other in (
            fault.0,
            use_over a n m (use_now old c.args.schema_use.now keyword v left a)
                (subst (λ os. IsOver n (parts_notes m os)) plan.outcomes
                (subst (λ (b : Bor Linked). IsOver n (parts_notes m (part_outcomes b.now left k a ps))) same
                (subst (λ (log : Log). IsOver (log_view log) (parts_notes m (part_outcomes c.plan_keyword.new.self.linked.now left k a ps))) c.in_ok-planned.ensures.noted fault.1))),
          );
    }

pub apply_all-loop-one-init : goal.apply_all-loop-one-init
apply_all-loop-one-init t c = record {
  linked = refl;
  back = refl;
  number = rw c.none-applied.ensures refl;
  passing = rw c.none-applied.ensures (omega arith);
  found = λ a under known. none_found c.none-applied.result c.none-applied.ensures;
  noted = λ a under known. sym (added_nothing (log_view c.args.self.now.log));
}

pub apply_all-loop-one-preserved : goal.apply_all-loop-one-preserved
apply_all-loop-one-preserved t c =
    let old = c.args.self.now in
    let k = (row_of c.args.keyword).name in
    let m = (row_of c.args.keyword).meaning in
    let items = c.deref-one-items.result.now in
    let p = c.one-item.result in
    let i = c.loop-one.one-index in
    let same = c.loop-one.invariant.linked in
    record {
      linked = c.in-Ok.ensures.stays.linked ∙ same;
      back = c.in-Ok.ensures.stays.back ∙ c.loop-one.invariant.back;
      number = rw c.and-applied.ensures (omega (arith, c.loop-one.invariant.number));
      passing = rw c.and-applied.ensures (passing_within c.in-Ok.valid c.loop-one.applied.passing c.loop-one.applied.number c.loop-one.invariant.passing);
      found =
          λ a under known.
          let inside : Contains c.args.planned.now.items p = subst (λ ps. Contains ps p) c.deref-one-items.ensures.value (i, omega arith, sym c.one-item.is) in
          let here : IsKnown c.loop-one.self.linked.now k a p = subst (λ (l : Bor Linked). IsKnown l.now k a p) (sym same) (known p inside) in
          let there : IsUnder (context_view c.loop-one.self.context) k a = ap frame_standing c.loop-one.invariant.back ∙ under in
          child_more c.loop-one.applied c.and-applied.result c.in-Ok.valid (part_outcome old.linked.now c.args.nesting k a) items i p (omega arith) c.one-item.is (c.loop-one.invariant.found a under known)
          (subst (λ (l : Bor Linked). c.in-Ok.valid ≡ (part_outcome l.now c.args.nesting k a p).1.valid) same (c.in-Ok.ensures.outcome a there here).found) c.and-applied.ensures;
      noted =
          λ a under known.
          let inside : Contains c.args.planned.now.items p = subst (λ ps. Contains ps p) c.deref-one-items.ensures.value (i, omega arith, sym c.one-item.is) in
          let here : IsKnown c.loop-one.self.linked.now k a p = subst (λ (l : Bor Linked). IsKnown l.now k a p) (sym same) (known p inside) in
          let there : IsUnder (context_view c.loop-one.self.context) k a = ap frame_standing c.loop-one.invariant.back ∙ under in
          child_noted m (log_view old.log) (log_view c.loop-one.self.log) (log_view c.apply_part.new.self.log) (part_outcome old.linked.now c.args.nesting k a) items i p (omega arith) c.one-item.is
          (c.loop-one.invariant.noted a under known)
          (subst (λ (l : Bor Linked). log_view c.apply_part.new.self.log ≡ notes_of_both (log_view c.loop-one.self.log) (part_notes m (part_outcome l.now c.args.nesting k a p))) same (c.in-Ok.ensures.outcome a there here).noted);
    }

pub apply_all-returns-in-Err-clause-outcome : goal.apply_all-returns-in-Err-clause-outcome
apply_all-returns-in-Err-clause-outcome t c a under known =
    let old = c.args.self.now in
    let k = (row_of c.args.keyword).name in
    let m = (row_of c.args.keyword).meaning in
    let items = c.deref-one-items.result.now in
    let p = c.one-item.result in
    let i = c.loop-one.one-index in
    let same = c.loop-one.invariant.linked in
    let inside : Contains c.args.planned.now.items p = subst (λ ps. Contains ps p) c.deref-one-items.ensures.value (i, omega arith, sym c.one-item.is) in
    let here : IsKnown c.loop-one.self.linked.now k a p = subst (λ (l : Bor Linked). IsKnown l.now k a p) (sym same) (known p inside) in
    let there : IsUnder (context_view c.loop-one.self.context) k a = ap frame_standing c.loop-one.invariant.back ∙ under in
    record {
      found = tt;
      noted = tt;
      err =
          λ other.
          let fault = (c.in-Err.ensures.outcome a there here).err other in (
            fault.0,
            rw (← c.deref-one-items.ensures.value)
                (child_over m (log_view old.log) (log_view c.loop-one.self.log) (part_outcome old.linked.now c.args.nesting k a) items i p (omega arith) c.one-item.is (c.loop-one.invariant.noted a under known)
                (subst (λ (l : Bor Linked). IsOver (log_view c.loop-one.self.log) (part_notes m (part_outcome l.now c.args.nesting k a p))) same fault.1)),
          );
    }

pub apply_all-returns-clause-outcome : goal.apply_all-returns-clause-outcome
apply_all-returns-clause-outcome t c a under known =
    let whole = take_all c.loop-one.one-index c.deref-one-items.result.now c.loop-one-test.false ∙ c.deref-one-items.ensures.value in
    subst (λ ps. HasParts c.args.self.now c.loop-one.self (Ok c.loop-one.applied) (row_of c.args.keyword).meaning (part_outcomes c.args.self.now.linked.now c.args.nesting (row_of c.args.keyword).name a ps)) whole
    (record { found = c.loop-one.invariant.found a under known; noted = c.loop-one.invariant.noted a under known; err = tt })

pub apply_entered-returns-in-Ok-clause-stays : goal.apply_entered-returns-in-Ok-clause-stays
apply_entered-returns-in-Ok-clause-stays t c = record {
  linked = c.in-Ok.ensures.stays.linked;
  back =
      c.leave_planned.ensures.left (context_view c.args.self.now.context)
      (subst (CameFrom c.in_ok-back.back (context_view c.args.self.now.context)) (sym c.in-Ok.ensures.stays.back) c.in_ok-back.ensures.entered);
}

pub apply_entered-returns-in-Ok-clause-outcome : goal.apply_entered-returns-in-Ok-clause-outcome
apply_entered-returns-in-Ok-clause-outcome t c a k under known =
    let p = c.args.planned.now in
    let child = (planned_view k a p).1 in
    let here : IsKnown (scope_documents c.args.self.now.context.scope).now k a p = subst (λ (l : Bor Linked). IsKnown l.now k a p) (sym c.args.self.now.followed) known in
    let at : IsAt c.args.self.now.linked.now (context_view c.enter_planned.new.self) (value c.of-present.result.schema.now) (subject_value p.subject) child =
    planned_at c.args.self.now.linked.now (context_view c.enter_planned.new.self) k a p (value c.of-present.result.schema.now) (c.in_ok-back.ensures.there a k (c.identifier.ensures ∙ ap (λ d. text_at (codes "$id") (value d)) c.of-present.ensures) under here.inside here.planned) (ap value c.of-present.ensures) known in
    let outcome = c.in-Ok.ensures.outcome child at in
    record { found = outcome.found; noted = outcome.noted; err = tt }

pub apply_entered-returns-in-Err-clause-outcome : goal.apply_entered-returns-in-Err-clause-outcome
apply_entered-returns-in-Err-clause-outcome t c a k under known =
    let p = c.args.planned.now in
    let child = (planned_view k a p).1 in
    let here : IsKnown (scope_documents c.args.self.now.context.scope).now k a p = subst (λ (l : Bor Linked). IsKnown l.now k a p) (sym c.args.self.now.followed) known in
    let at : IsAt c.args.self.now.linked.now (context_view c.enter_planned.new.self) (value c.of-present.result.schema.now) (subject_value p.subject) child =
    planned_at c.args.self.now.linked.now (context_view c.enter_planned.new.self) k a p (value c.of-present.result.schema.now) (c.in_ok-back.ensures.there a k (c.identifier.ensures ∙ ap (λ d. text_at (codes "$id") (value d)) c.of-present.ensures) under here.inside here.planned) (ap value c.of-present.ensures) known in
    record { found = tt; noted = tt; err = (c.in-Err.ensures.outcome child at).err }

use Rattle.std.proofs.Common.{Ok, ◌≡◌, ◌∙◌, ap, sym, subst, Some, None, true, false, IfOk, OnOk}
use Rattle.std.specs.List.{list_all}
use Rattle.assertions.specs.AssertionView.{assertion_view}
use Rattle.definitions.specs.Values.{get}
use Rattle.definitions.specs.Assertions.{holds}
use Rattle.definitions.specs.Applied.{Application}
use Rattle.definitions.specs.Outcomes.{Use}
use Rattle.json_doc.specs.Docs.{value}
use Rattle.keywords.specs.Rows.{row_of}
use Rattle.keywords.specs.declared.group.Group.TheVariants.{One}
use Rattle.evaluation_context.specs.Frames.{context_view, frame_standing}
use Rattle.evaluation_context.specs.Standings.{standing_of}
use Rattle.evaluation_context.specs.declared.context.Context.{Context}
use Rattle.std.proofs.lemmas.Result.{IfErr-weaker}
use Rattle.evaluator.specs.Applying.{HasUses}
use Rattle.evaluator.specs.declared.halt.Halt.TheVariants as halt
use Rattle.evaluation_log.specs.Logs.{log_view}
use Rattle.evaluation_log.specs.Notes.{Notes, notes_of_both, uses_notes}
use Rattle.evaluator.specs.Rounds.{group_uses}
use Rattle.evaluation_log.specs.declared.log.Log.{Log}
use Rattle.evaluator.proofs.AssertedLaws.{absent_use, alone_valid, asserted_use, failing_notes, passing_notes}
use Rattle.evaluation_log.proofs.LogLaws.{added_nothing}
use Rattle.evaluator.proofs.TurnLaws.{none_used}
use Rattle.evaluator.proofs.applying.Evaluation.use_assertion.Goals as goal

pub returns-then-met-clause-outcome : goal.returns-then-met-clause-outcome
returns-then-met-clause-outcome c a left at =
    let k = c.args.keyword in
    let x = assertion_view c.args.assertion in
    let v = value c.in-Some.keyword_value.now in
    let n = log_view c.args.self.now.log in
    let got : get (row_of k).name a.schema.value ≡ Some v = ap (λ (b : Application). get (row_of k).name b.schema.value) at.there ∙ sym c.in-Some.ensures in
    let met : holds x v a.instance ≡ true = sym (c.in_ok-met-in-Some.ensures.met a at got) ∙ c.if-met.true in
    let used = asserted_use c.args.self.now.linked.now left a k v x c.requires.asserts got in
    record {
      found = alone_valid (row_of k).name x v a true met ∙ ap (list_all (λ (u : Use). u.passes)) (sym used);
      noted =
          ap log_view c.in_ok-met-in-Some.ensures.same.log ∙ sym (added_nothing n)
          ∙ ap (notes_of_both n) (sym (ap (uses_notes a) used ∙ passing_notes (row_of k).name x v a met));
      err = tt;
    }

pub returns-else-met-clause-outcome : goal.returns-else-met-clause-outcome
returns-else-met-clause-outcome c a left at =
    let k = c.args.keyword in
    let x = assertion_view c.args.assertion in
    let v = value c.in-Some.keyword_value.now in
    let got : get (row_of k).name a.schema.value ≡ Some v = ap (λ (b : Application). get (row_of k).name b.schema.value) at.there ∙ sym c.in-Some.ensures in
    let met : holds x v a.instance ≡ false = sym (c.in_ok-met-in-Some.ensures.met a at got) ∙ c.if-met.false in
    let used = asserted_use c.args.self.now.linked.now left a k v x c.requires.asserts got in
    let us = group_uses c.args.self.now.linked.now left a (One k) in
    let fails : false ≡ list_all (λ u. u.passes) us = alone_valid (row_of k).name x v a false met ∙ ap (list_all (λ (u : Use). u.passes)) (sym used) in
    let standing : frame_standing (context_view c.is_met.new.self.context) ≡ standing_of a =
    ap (λ (x : Context). frame_standing (context_view x)) c.in_ok-met-in-Some.ensures.same.context ∙ ap standing_of (sym at.there) in
    record {
      found = subst (λ r. IfOk c.refuse.result (λ b. b ≡ r)) fails c.refuse.ensures.refused;
      noted =
          subst (λ (g : Log). OnOk c.refuse.result (log_view c.refuse.new.self.log ≡ notes_of_both (log_view g) (uses_notes a us))) c.in_ok-met-in-Some.ensures.same.log
          (subst (λ (n : Notes). OnOk c.refuse.result (log_view c.refuse.new.self.log ≡ notes_of_both (log_view c.is_met.new.self.log) n))
          (sym (ap (uses_notes a) used ∙ failing_notes (row_of k).name x v a met))
          (c.refuse.ensures.noted a standing));
      err = IfErr-weaker c.refuse.result (λ h. h ≡ halt.NoRoom) _ (λ h same other. absurd (other same)) c.refuse.ensures.err;
    }

pub returns-in-None-clause-outcome : goal.returns-in-None-clause-outcome
returns-in-None-clause-outcome c a left at =
    let k = c.args.keyword in
    let gone : get (row_of k).name a.schema.value ≡ None = ap (λ (b : Application). get (row_of k).name b.schema.value) at.there ∙ sym c.in-None.ensures in
    subst (HasUses c.args.self.now c.args.self.now (Ok true) a) (sym (absent_use c.args.self.now.linked.now left a k gone)) (none_used c.args.self.now a)

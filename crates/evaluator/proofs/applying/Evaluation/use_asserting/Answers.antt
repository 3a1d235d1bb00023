use Rattle.std.proofs.Common.{◌≡◌, ◌∙◌, Ok, ap, sym, subst, false, true, is_some, option_map}
use Rattle.assertions.specs.AssertionView.{assertion_view}
use Rattle.evaluator.specs.Applying.{HasUses}
use Rattle.evaluator.specs.Groups.{asserts_alone}
use Rattle.evaluator.specs.Rounds.{group_uses}
use Rattle.evaluator.proofs.TurnLaws.{none_used}
use Rattle.evaluator.proofs.applying.Evaluation.use_asserting.Goals as goal

pub returns-in-Some-clause-outcome : goal.returns-in-Some-clause-outcome
returns-in-Some-clause-outcome c a left at none =
    subst (λ g. HasUses c.args.self.now c.use_assertion.new.self c.use_assertion.result a (group_uses c.args.self.now.linked.now left a g)) (sym c.in-One.is) (c.use_assertion.ensures.outcome a left at)

pub returns-in-None-clause-outcome : goal.returns-in-None-clause-outcome
returns-in-None-clause-outcome c a left at none =
    let other : asserts_alone c.args.group ≡ false =
    ap asserts_alone c.in-One.is ∙ ap is_some (sym c.of.ensures) ∙ ap (λ o. is_some (option_map assertion_view o)) c.in-None.is in
    subst (HasUses c.args.self.now c.args.self.now (Ok true) a) (sym (none other)) (none_used c.args.self.now a)

pub returns-in-Conditional-clause-outcome : goal.returns-in-Conditional-clause-outcome
returns-in-Conditional-clause-outcome c a left at none =
    subst (HasUses c.args.self.now c.args.self.now (Ok true) a) (sym (none (ap asserts_alone c.in-Conditional.is))) (none_used c.args.self.now a)

pub returns-in-Counted-clause-outcome : goal.returns-in-Counted-clause-outcome
returns-in-Counted-clause-outcome c a left at none =
    subst (HasUses c.args.self.now c.args.self.now (Ok true) a) (sym (none (ap asserts_alone c.in-Counted.is))) (none_used c.args.self.now a)

pub returns-in-Empty-clause-outcome : goal.returns-in-Empty-clause-outcome
returns-in-Empty-clause-outcome c a left at none =
    subst (HasUses c.args.self.now c.args.self.now (Ok true) a) (sym (none (ap asserts_alone c.in-Empty.is))) (none_used c.args.self.now a)

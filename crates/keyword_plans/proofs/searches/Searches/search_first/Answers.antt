use Rattle.std.proofs.Common.{sym, subst, ◌∙◌}
use Rattle.keyword_plans.specs.Held.{IsHeld, number_of}
use Rattle.keyword_plans.proofs.HeldPatterns.{held_after}
use Rattle.keyword_plans.proofs.searches.Searches.search_first.Goals as goal

pub invariant_of-self : goal.invariant_of-self
invariant_of-self c =
    let l = c.args.self.now.linked.now in
    let right : IsHeld l (number_of c.parts.result) c.search.new.pattern = subst (λ p. IsHeld l (number_of p) c.search.new.pattern) (sym c.parts.ensures) (λ text is. c.search.ensures.same ∙ c.in_ok-pattern.ensures text is) in
    record { right = held_after l c.args.self.now.held c.insert.new.self c.parts.result c.search.new.pattern c.insert.result c.args.self.now.right c.insert.ensures.updates c.insert.ensures.err right; same = c.args.self.now.same }

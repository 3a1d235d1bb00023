use Rattle.std.proofs.Common.{ℕ, Option, Some, None, IfNone, map, sym, ◌∙◌}
use Rattle.text_numbers.proofs.Sameness.{agree_at, agree_level}
use Rattle.text_numbers.proofs.differences.middle_bound.Goals as goal

if_none : (o : Option ℕ) (P Q : Type 0) → (P → Q) → IfNone o P → IfNone o Q
if_none None P Q f p = f p
if_none (Some n) P Q f p = p

pub returns-else-has_below-clause-agree : goal.returns-else-has_below-clause-agree
returns-else-has_below-clause-agree c =
    if_none c.least_above.result _ _
    (λ none. agree_at (map (λ t. t.now) c.args.texts.now) c.args.numbers.now c.args.position c.value_of-middle.result
    (sym c.has_below.ensures ∙ c.if-has_below.false) none)
    c.least_above.ensures.none

pub returns-then-is_level-clause-agree : goal.returns-then-is_level-clause-agree
returns-then-is_level-clause-agree c =
    agree_level (map (λ t. t.now) c.args.texts.now) c.args.numbers.now c.args.position c.value_of-middle.result (sym c.is_level.ensures ∙ c.if-is_level.true)

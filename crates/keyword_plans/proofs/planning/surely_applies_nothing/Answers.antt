use Rattle.std.proofs.Common.{ap}
use Rattle.keywords.specs.Rows.{row_of}
use Rattle.keyword_plans.specs.Plans.{takes_others}
use Rattle.keyword_plans.proofs.planning.surely_applies_nothing.Goals as goal

pub returns-in-AdditionalProperties : goal.returns-in-AdditionalProperties
returns-in-AdditionalProperties c l a run names indexes v inside same named all =
    rw c.in-AdditionalProperties.is (c.are_all_named.ensures l a _ v inside same (named (ap (λ k. takes_others (row_of k).meaning) c.in-AdditionalProperties.is)) all)

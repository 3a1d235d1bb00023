use Rattle.std.proofs.Common.{◌∙◌, map, sym}
use Rattle.std.proofs.lemmas.Result.{IfOk-weaker}
use Rattle.keyword_plans.specs.NumberedPatterns.{numbered_view}
use Rattle.keyword_plans.specs.SearchedIn.{searched_in}
use Rattle.keyword_plans.proofs.Taken.{taken_by_patterns}
use Rattle.keyword_plans.proofs.planning.others.is_taken.Goals as goal

pub returns-clause-ok : goal.returns-clause-ok
returns-clause-ok c a take =
    let all = taken_by_patterns (searched_in c.args.searches.now).now a c.args.name.now _ (map numbered_view c.args.takers.patterns.now) take.properties take.patterns (sym c.is_named.ensures ∙ c.if-is_named.false) in
    IfOk-weaker c.is_matched.result _ _ (λ b d. d ∙ all) (c.is_matched.ensures.ok take.numbers)

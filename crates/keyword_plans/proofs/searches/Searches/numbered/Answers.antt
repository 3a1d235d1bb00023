use Rattle.std.proofs.Common.{ap, ◌∙◌}
use Rattle.linker.specs.PatternNumbers.{pattern_text}
use Rattle.keyword_plans.specs.Held.{number_of}
use Rattle.keyword_plans.specs.SearchedIn.{searched_in}
use Rattle.keyword_plans.proofs.searches.Searches.numbered.Goals as goal

pub returns-in-Some-clause-ok : goal.returns-in-Some-clause-ok
returns-in-Some-clause-ok c pattern is =
    let l = (searched_in c.args.self.now).now in
    c.in-Some.ensures.ok l pattern c.args.self.now.right (ap (λ parts. pattern_text l (number_of parts)) c.parts.ensures ∙ is)

use Rattle.std.proofs.Common.{◌∙◌, ap, map, subst, sym, Bor}
use Rattle.std.specs.List.{All}
use Rattle.json_doc.specs.Docs.{members_value}
use Rattle.linker.specs.declared.linked.Linked.{Linked}
use Rattle.keyword_plans.specs.Applications.{ArePatternsOf, planned_pattern}
use Rattle.keyword_plans.specs.NumberedPatterns.{IsNumbered, numbered_view}
use Rattle.keyword_plans.specs.SearchedIn.{searched_in}
use Rattle.keyword_plans.proofs.planning.matching.plan_matched.Goals as goal

pub returns-clause-ok : goal.returns-clause-ok
returns-clause-ok c a k s are =
    let back = c.take_numbered-numbered.ensures.linked in
    let same = c.in_ok-push_numbered.ensures.searched in
    let here = subst (λ (l : Bor Linked). ArePatternsOf l.now c.args.resource.now s (members_value c.args.patterns.now)) (sym back) are in
    let numbers = subst (λ (l : Bor Linked). All (IsNumbered l.now) c.push_numbered.new.numbered.items) (sym same) (c.in_ok-push_numbered.ensures.numbers s here) in
    c.in_ok-plan_numbered.ensures.ok a k (subst (All (IsNumbered (searched_in c.push_numbered.new.searches).now)) (sym c.deref.ensures.value) numbers)
    ∙ ap (λ ps. planned_pattern k a ps (members_value c.args.members.now)) (ap (map numbered_view) c.deref.ensures.value ∙ c.in_ok-push_numbered.ensures.patterns s here)

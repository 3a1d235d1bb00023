use Rattle.std.proofs.Common.{◌∙◌, ap, map, subst, sym, Bor}
use Rattle.std.specs.List.{All}
use Rattle.linker.specs.declared.linked.Linked.{Linked}
use Rattle.json_doc.specs.Docs.{members_value, value}
use Rattle.keyword_plans.specs.Applications.{planned_others}
use Rattle.keyword_plans.specs.Beside.{StandsBeside}
use Rattle.keyword_plans.specs.NumberedPatterns.{IsNumbered, numbered_view}
use Rattle.keyword_plans.specs.SearchedIn.{searched_in}
use Rattle.keyword_plans.proofs.planning.others.plan_each_untaken.Goals as goal

pub returns-clause-ok : goal.returns-clause-ok
returns-clause-ok c a k stands =
    let back = c.take_numbered-numbered.ensures.linked in
    let same = c.in_ok-push_patterns.ensures.searched in
    let here = subst (λ (l : Bor Linked). StandsBeside l.now c.args.beside a) (sym back) stands in
    let numbers = subst (λ (l : Bor Linked). All (IsNumbered l.now) c.push_patterns.new.numbered.items) (sym same) (c.in_ok-push_patterns.ensures.numbers a here) in
    let searched = (searched_in c.push_patterns.new.searches).now in
    c.in_ok-push_untaken.ensures.ok a k (
    record {
      properties = stands.properties;
      patterns = ap (map numbered_view) c.deref.ensures.value ∙ c.in_ok-push_patterns.ensures.patterns a here;
      numbers = subst (All (IsNumbered searched)) (sym c.deref.ensures.value) numbers;
    })
    ∙ ap (λ (l : Bor Linked). planned_others l.now k a (value c.args.schema.now) (members_value c.args.members.now)) (same ∙ back)

use Rattle.std.proofs.Common.{◌∙◌, ap, map, subst, sym, Bor}
use Rattle.std.specs.List.{All}
use Rattle.json_doc.specs.NamedMembers.{named_left}
use Rattle.linker.specs.declared.linked.Linked.{Linked}
use Rattle.keyword_plans.specs.Applications.{planned_pattern}
use Rattle.keyword_plans.specs.NumberedPatterns.{IsNumbered, numbered_view}
use Rattle.applicators.specs.Plans.{planned_view}
use Rattle.applicators.proofs.Growing.{grown, ended}
use Rattle.keyword_plans.proofs.planning.matching.plan_numbered.Goals as goal

pub loop-name-preserved : goal.loop-name-preserved
loop-name-preserved c =
    let ps = map numbered_view c.args.patterns.now in
    record {
      searched = c.push_matches.ensures.searched ∙ c.loop-name.invariant.searched;
      planned = λ a k are.
          grown (map (planned_view k a) c.loop-name.planned.items) _ _ _ (planned_pattern k a ps (named_left c.next.new.self)) _
          (c.in_ok-push_matches.ensures.ok a k (subst (λ (l : Bor Linked). All (IsNumbered l.now) c.args.patterns.now) (sym c.loop-name.invariant.searched) are)) (ap (planned_pattern k a ps) c.in-Some.ensures.steps)
          (c.loop-name.invariant.planned a k are);
    }

pub returns-clause-ok : goal.returns-clause-ok
returns-clause-ok c a k are =
    ended (map (planned_view k a) c.loop-name.planned.items) _ _ (ap (planned_pattern k a (map numbered_view c.args.patterns.now)) c.in-None.ensures.steps.0) (c.loop-name.invariant.planned a k are)

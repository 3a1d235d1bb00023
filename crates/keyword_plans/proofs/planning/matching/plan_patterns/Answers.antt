use Rattle.std.proofs.Common.{◌∙◌, sym, ap, ap₂, map, subst}
use Rattle.std.proofs.lemmas.Result.{on_ok_weaker}
use Rattle.definitions.specs.Values.{members}
use Rattle.json_doc.specs.Docs.{value}
use Rattle.keyword_plans.specs.Applications.{ArePatternsOf, planned_pattern}
use Rattle.applicators.specs.Plans.{planned_view}
use Rattle.json_doc.specs.Docs.{members_value}
use Rattle.keyword_plans.proofs.Matching.{same_patterns}
use Rattle.keyword_plans.proofs.Patterns.{site_patterns, matched-none}
use Rattle.keyword_plans.proofs.planning.matching.plan_patterns.Goals as goal

pub returns-in-Some-members-clause-ok : goal.returns-in-Some-members-clause-ok
returns-in-Some-members-clause-ok c a k shows same e =
    let are = subst (ArePatternsOf c.args.application.now.linked.now c.args.application.now.resource.now a.schema) (sym c.in-Some.ensures) (site_patterns c.args.application.now a (value c.args.schemas.now) shows e) in
    let all = ap₂ (planned_pattern k a) c.in-Some.ensures (c.in-Some-members.ensures ∙ ap members (sym shows.instance)) in
    on_ok_weaker c.plan_matched.result (λ d. d ∙ all) (c.plan_matched.ensures.ok a k a.schema (same_patterns _ _ _ a.schema (members_value c.in-Some.patterns.now) same are))

pub returns-in-None-clause-ok : goal.returns-in-None-clause-ok
returns-in-None-clause-ok c a k shows same e =
    ap (map (planned_view k a)) c.requires
    ∙ sym (ap (λ ps. planned_pattern k a ps (members a.instance)) (sym c.in-None.ensures) ∙ matched-none k a (members a.instance))

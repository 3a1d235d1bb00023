use Rattle.std.proofs.Common.{◌∙◌, sym, ap, ap₂, Bor}
use Rattle.std.proofs.lemmas.Result.{on_ok_weaker}
use Rattle.definitions.specs.Values.{members}
use Rattle.json_doc.specs.Docs.{value}
use Rattle.linker.specs.declared.linked.Linked.{Linked}
use Rattle.keyword_plans.specs.Applications.{planned_others}
use Rattle.keyword_plans.proofs.Taken.{same_beside}
use Rattle.keyword_plans.proofs.planning.others.plan_others.Goals as goal

pub returns-in-Some-clause-ok : goal.returns-in-Some-clause-ok
returns-in-Some-clause-ok c a k shows same =
    let stands = same_beside _ _ _ a same (c.keywords_beside.ensures a shows) in
    let all = ap₂ (λ (l : Bor Linked). planned_others l.now k a (value c.args.schema.now)) same (c.in-Some.ensures ∙ ap members (sym shows.instance)) in
    on_ok_weaker c.plan_untaken.result (λ d. d ∙ all) (c.plan_untaken.ensures.ok a k stands)

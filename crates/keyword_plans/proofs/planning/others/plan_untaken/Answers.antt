use Rattle.std.proofs.Common.{◌∙◌, [], sym, ap, Bor, Option, option_map, unwrap_or}
use Rattle.std.proofs.lemmas.Result.{on_ok_weaker}
use Rattle.json_doc.specs.Docs.{value, members_value}
use Rattle.json_doc.specs.declared.members.Members.{Members}
use Rattle.keyword_plans.specs.SearchedIn.{searched_in}
use Rattle.keyword_plans.proofs.Unnamed.{unnamed-others}
use Rattle.keyword_plans.proofs.planning.others.plan_untaken.Goals as goal

pub returns-in-Some-None-clause-ok : goal.returns-in-Some-None-clause-ok
returns-in-Some-None-clause-ok c a k stands =
    let properties = sym (ap (λ (o : Option (Bor Members)). unwrap_or (option_map (λ m. members_value m.now) o) []) c.in-Some-None.is-0) ∙ stands.properties in
    let patterns = sym (ap (λ (o : Option (Bor Members)). unwrap_or (option_map (λ m. members_value m.now) o) []) c.in-Some-None.is-1) ∙ stands.patterns in
    on_ok_weaker c.plan_unnamed.result (λ d. d
    ∙ unnamed-others k a (value c.args.schema.now) (searched_in c.args.searches.now).now (members_value c.in-Some-None.schemas.now) (members_value c.args.members.now) properties patterns) (c.plan_unnamed.ensures a k)

use Rattle.std.proofs.Common.{◌≡◌, [], ◌∙◌, map, sym, ap, subst, codes, unwrap_or, option_map, Bor, Option}
use Rattle.std.proofs.lemmas.Result.{on_ok_weaker}
use Rattle.std.proofs.lemmas.List.Elements.{All-nil}
use Rattle.std.specs.List.{All}
use Rattle.definitions.specs.Values.{members}
use Rattle.definitions.specs.Applied.{Application, beside}
use Rattle.json_doc.specs.Docs.{members_value}
use Rattle.json_doc.specs.declared.members.Members.{Members}
use Rattle.keyword_plans.specs.Applications.{ArePatternsOf}
use Rattle.keyword_plans.specs.Beside.{StandsBeside}
use Rattle.keyword_plans.specs.NumberedPatterns.{IsNumbered, numbered_view}
use Rattle.keyword_plans.specs.SearchedIn.{searched_in}
use Rattle.keyword_plans.proofs.planning.others.push_patterns.Goals as goal

there : (c : goal.After-push_numbered) (a : Application) → StandsBeside (searched_in c.args.searches.now).now c.args.keywords a → members_value c.in-Some.patterns.now ≡ members (beside a (codes "patternProperties"))
there c a stands = sym (ap (λ (o : Option (Bor Members)). unwrap_or (option_map (λ m. members_value m.now) o) []) c.in-Some.is) ∙ stands.patterns

are : (c : goal.After-push_numbered) (a : Application) → StandsBeside (searched_in c.args.searches.now).now c.args.keywords a
    → ArePatternsOf (searched_in c.args.searches.now).now c.args.keywords.resource.now a.schema (members_value c.in-Some.patterns.now)
are c a stands = subst (ArePatternsOf (searched_in c.args.searches.now).now c.args.keywords.resource.now a.schema) (sym (there c a stands)) stands.inside

pub returns-in-Some-clause-patterns : goal.returns-in-Some-clause-patterns
returns-in-Some-clause-patterns c a stands = on_ok_weaker c.push_numbered.result (λ d. d ∙ there c a stands) (c.push_numbered.ensures.patterns a.schema (are c a stands))

pub returns-in-Some-clause-numbers : goal.returns-in-Some-clause-numbers
returns-in-Some-clause-numbers c a stands = c.push_numbered.ensures.numbers a.schema (are c a stands)

pub returns-in-None-clause-patterns : goal.returns-in-None-clause-patterns
returns-in-None-clause-patterns c a stands = ap (map numbered_view) c.requires ∙ sym (ap (λ (o : Option (Bor Members)). unwrap_or (option_map (λ m. members_value m.now) o) []) c.in-None.is) ∙ stands.patterns

pub returns-in-None-clause-numbers : goal.returns-in-None-clause-numbers
returns-in-None-clause-numbers c a stands = subst (All (IsNumbered (searched_in c.args.searches.now).now)) (sym c.requires) (All-nil (IsNumbered (searched_in c.args.searches.now).now))

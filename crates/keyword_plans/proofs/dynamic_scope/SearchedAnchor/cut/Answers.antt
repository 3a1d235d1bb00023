use Rattle.std.proofs.Common.{None, option_map, subst, sym, arith}
use Rattle.keyword_plans.specs.Followed.{target_view}
use Rattle.keyword_plans.specs.Searched.{AreSearched}
use Rattle.keyword_plans.proofs.SearchedScopes.{cut_searched, kept_searched}
use Rattle.keyword_plans.proofs.dynamic_scope.SearchedAnchor.cut.Goals as goal

pub returns-then-self-left : goal.returns-then-self-left
returns-then-self-left c = λ l older uri e was.
    let s = c.args.self.now in
    let less = c.if-self-left.true in
    record { anchor = was.anchor; number = was.number; searched = kept_searched l s.name.now older uri s.passed (option_map target_view s.found) (omega (arith, e, less)) was.searched }

pub returns : goal.returns
returns c = λ l older uri e was.
    let s = c.args.self.now in
    let more = c.if-self-left.false in
    record {
      anchor = was.anchor;
      number = was.number;
      searched = subst (λ n. AreSearched l older s.name.now n None) (sym e) (cut_searched l s.name.now older uri s.passed (option_map target_view s.found) (omega (arith, e, more)) was.searched);
    }

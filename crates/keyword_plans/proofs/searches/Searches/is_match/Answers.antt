use Rattle.std.proofs.Common.{◌≡◌, Bor, IfSome, IsTrue, Option, Some, false, is_some, true, subst, sym}
use Rattle.definitions.specs.Values.{Text}
use Rattle.linker.specs.PatternNumbers.{pattern_text}
use Rattle.linker.specs.declared.linked.Linked.{Linked}
use Rattle.linker.specs.declared.pattern_numbers.PatternNumber.{PatternNumber}
use Rattle.keyword_plans.proofs.searches.Searches.is_match.Goals as goal

-- the number, where there is one, stands for the pattern
abbrev StandsFor : Text → Option PatternNumber → Bor Linked → Type 0
StandsFor pattern number l = IfSome number (λ n. pattern_text l.now n ≡ Some pattern)

pub returns-in-Some-clause-ok : goal.returns-in-Some-clause-ok
returns-in-Some-clause-ok c s inside resource has =
    let stands = subst (StandsFor c.args.pattern.now c.in_ok-number.field-0) (sym c.in_ok-number.ensures.linked) (c.in_ok-number.ensures.text s inside resource has) in
    c.numbered.ensures.ok c.args.pattern.now (subst (λ n. StandsFor c.args.pattern.now n c.number.new.self.linked) c.in-Some.is stands)

pub returns-in-Some-2-clause-ok : goal.returns-in-Some-2-clause-ok
returns-in-Some-2-clause-ok c s inside resource has =
    let stands = subst (StandsFor c.args.pattern.now c.in_ok-number.field-0) (sym c.in_ok-number.ensures.linked) (c.in_ok-number.ensures.text s inside resource has) in
    c.is_numbered_match.ensures c.args.pattern.now (subst (λ n. StandsFor c.args.pattern.now n c.number.new.self.linked) c.in-Some.is stands)

pub returns-in-None-clause-ok : goal.returns-in-None-clause-ok
returns-in-None-clause-ok c s inside resource has = let never : false ≡ true = subst (λ o. IsTrue (is_some o)) c.in-None.is (c.in_ok-number.ensures.there s inside resource) in cc

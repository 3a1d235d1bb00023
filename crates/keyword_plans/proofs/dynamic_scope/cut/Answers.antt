use Rattle.std.proofs.Common.{◌≡◌, ◌≢◌, ◌<◌, ◌++◌, ◌∷◌, [], length, get_or, set, inl, inr, subst, sym, arith}
use Rattle.std.proofs.lemmas.Bool.{cases_lt}
use Rattle.std.proofs.lemmas.List.{get_or-set_other, get_or-set_same, length-set}
use Rattle.keyword_plans.specs.Searched.{IsSearched}
use Rattle.keyword_plans.proofs.dynamic_scope.cut.Goals as goal

pub loop-one-init : goal.loop-one-init
loop-one-init c = λ d older uri e all. (λ k x less. absurd (omega (arith, less)), λ k x more less. all k x less)

pub loop-one-preserved : goal.loop-one-preserved
loop-one-preserved c = λ d older uri e all.
    let i = c.loop-one.one-index in
    let before = c.loop-one.searched in
    let one = c.cut.new.self in
    let so_far = c.loop-one.invariant d older uri e all in
    let long = length-set before i one in
    let inside : i < length before = omega arith in (
      λ k x less.
          elim (cases_lt k i) [
            | inl lower ↦
                let other : k ≢ i = omega (arith, lower) in
                subst (IsSearched d older) (sym (get_or-set_other before i k one x other)) (so_far.0 k x lower)
            | inr last ↦
                let here : k ≡ i = omega (arith, less, last) in
                subst (λ j. IsSearched d older (get_or (set before i one) j x)) (sym here)
                (subst (IsSearched d older) (sym (get_or-set_same before i one x inside)) (c.cut.ensures d older uri e (so_far.1 i _ (omega arith) inside)))
          ],
      λ k x more less.
          let other : k ≢ i = omega (arith, more) in
          subst (IsSearched d (older ++ uri ∷ [])) (sym (get_or-set_other before i k one x other)) (so_far.1 k x (omega (arith, more)) (omega (arith, less, long))),
    )

pub returns : goal.returns
returns c = λ l older uri e all k x less. (c.loop-one.invariant l older uri e all).0 k x (omega (arith, less, c.loop-one-test.false))

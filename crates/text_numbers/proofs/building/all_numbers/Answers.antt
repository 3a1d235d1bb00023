use Rattle.std.proofs.Common.{◌≡◌, ◌+◌, ◌++◌, ◌∷◌, [], ap, sym, ◌∙◌, arith}
use Rattle.std.specs.List.{range_with_len}
use Rattle.text_numbers.proofs.Members.{range_more}
use Rattle.text_numbers.proofs.building.all_numbers.Goals as goal

pub loop-number-preserved : goal.loop-number-preserved
loop-number-preserved c =
    let number = c.loop-number.number in
    let is : number ≡ 0 + number = omega arith in
    c.in_ok-push.ensures.items ∙ ap (λ ns. ns ++ number ∷ []) c.loop-number.invariant
    ∙ ap (λ n. range_with_len 0 number ++ n ∷ []) is ∙ sym (range_more 0 number)

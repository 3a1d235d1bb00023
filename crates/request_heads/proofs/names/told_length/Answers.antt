use Rattle.std.proofs.Common.{◌≡◌, ◌<◌, get_or, ◌∙◌, arith}
use Rattle.std.specs.Char.{is_ascii_digit, digit_value}
use Rattle.std.proofs.lemmas.Bool.{and_from}
use Rattle.std.proofs.lemmas.Bool.Decides.{nat_tests}
use Rattle.std.proofs.lemmas.Grind.{pow_more}
use Rattle.std.proofs.lemmas.Int.Digits.{digits_value_more}
use Rattle.std.proofs.lemmas.List.Folds.{list_all_more}
use Rattle.request_heads.proofs.names.told_length.Goals as goal

pub loop-digit-preserved : goal.loop-digit-preserved
loop-digit-preserved c =
    let text = c.args.value.now in
    let at = c.loop-digit.digit-index in
    let digit : digit_value (get_or text at 0) ≡ c.from.result = grind (arith, nat_tests) in
    let small : c.from.result < 10 = grind (arith, nat_tests) in
    record {
      value = omega (arith, digits_value_more 10 text at c.loop-digit-test.true, digit, c.loop-digit.invariant.value);
      digits = list_all_more is_ascii_digit text at 0 c.loop-digit-test.true ∙ and_from _ _ c.loop-digit.invariant.digits (grind (arith, nat_tests));
      small = omega (arith, pow_more 10 at, small, c.loop-digit.invariant.small);
    }

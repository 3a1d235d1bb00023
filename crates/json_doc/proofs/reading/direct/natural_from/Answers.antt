use Rattle.std.proofs.Common.{◌≡◌, ◌≤◌, length, get_or, ◌∙◌, arith}
use Rattle.std.proofs.lemmas.Int.Digits.{digits_value_more}
use Rattle.json_doc.proofs.Numerals.{digit_is, one_more_digit, small_before, whole_numeral}
use Rattle.json_doc.proofs.reading.direct.natural_from.Goals as goal

pub loop-digit-preserved : goal.loop-digit-preserved
loop-digit-preserved c =
    let l = c.loop-digit in
    let ds = c.args.digits.now in
    let i = l.digit-index in
    let low : 48 ≤ get_or ds i 0 = omega arith in
    let high : get_or ds i 0 ≤ 57 = omega arith in
    let here = digit_is (get_or ds i 0) low high in
    record {
      some = l.invariant.some;
      short = l.invariant.short;
      digits = one_more_digit ds i c.loop-digit-test.true l.invariant.digits low high;
      value = digits_value_more 10 ds i c.loop-digit-test.true ∙ (omega (arith, l.invariant.value, here));
    }

pub overflow_mul-natural : goal.overflow_mul-natural
overflow_mul-natural c =
    let l = c.loop-digit in
    omega (arith, small_before c.args.digits.now l.digit-index c.loop-digit-test.true l.invariant.short l.invariant.digits, l.invariant.value)

pub overflow_add-natural : goal.overflow_add-natural
overflow_add-natural c =
    let l = c.loop-digit in
    omega (arith, small_before c.args.digits.now l.digit-index c.loop-digit-test.true l.invariant.short l.invariant.digits, l.invariant.value)

pub returns : goal.returns
returns c =
    let l = c.loop-digit.invariant in
    let ended : c.loop-digit.digit-index ≡ length c.args.digits.now = omega arith in
    whole_numeral c.args.digits.now c.loop-digit.natural l.some l.short (rw ended at l.digits) (rw ended at l.value)

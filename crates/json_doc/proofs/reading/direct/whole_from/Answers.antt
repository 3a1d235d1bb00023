use Rattle.std.proofs.Common.{◌≡◌, drop, get_or, true, false, ◌==◌, Some, IfSome, option_and_then, sym, ap, ◌∙◌, subst, arith, take_all, length-drop}
use Rattle.fast_float.specs.Text.{scan}
use Rattle.serde_json.specs.Find.{as_integer}
use Rattle.serde_json.specs.Read.{number_of, number_from}
use Rattle.json_doc.proofs.reading.direct.whole_from.Goals as goal

pub returns-then-has_minus : goal.returns-then-has_minus
unfolding number_of
returns-then-has_minus c =
    let s = c.as_bytes-bytes.result.now in
    let signed : (get_or s 0 0 == 45) ≡ true = sym c.if-has_minus.ensures.value in
    let read : number_from true (scan (drop 1 s)) ≡ number_of s = rw signed in
    subst (λ n. IfSome c.negative_from.result (λ z. option_and_then as_integer n ≡ Some z))
    (ap (λ ds. number_from true (scan ds)) (take_all _ (drop 1 s) (omega (arith, length-drop 1 s))) ∙ read ∙ ap number_of c.as_bytes-bytes.ensures.value) c.negative_from.ensures

pub returns-else-has_minus : goal.returns-else-has_minus
unfolding number_of
returns-else-has_minus c =
    let s = c.as_bytes-bytes.result.now in
    let unsigned : (get_or s 0 0 == 45) ≡ false = sym c.if-has_minus.ensures.value in
    let read : number_from false (scan s) ≡ number_of s = rw unsigned in
    subst (λ n. IfSome c.positive_from.result (λ z. option_and_then as_integer n ≡ Some z)) (read ∙ ap number_of c.as_bytes-bytes.ensures.value) c.positive_from.ensures

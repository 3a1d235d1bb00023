use Rattle.std.proofs.Common.{◌≡◌, ◌∷◌, [], ◌++◌, get_or, length, suc, ap, ◌∙◌, arith}
use Rattle.std.proofs.lemmas.Str.{IsCharBoundary-after_ascii}
use Rattle.json.specs.Print.{escape, quoted}
use Rattle.basic_output.proofs.unit_text.escaping.push_escapes.Goals as goal

pub range-requires-clause-start_boundary : goal.range-requires-clause-start_boundary
range-requires-clause-start_boundary c _ =
    let s = c.as_str.result.now in
    let t = c.args.text.now in
    let is : s ≡ quoted t = c.as_str.ensures.value ∙ c.in_ok-write_string.ensures in
    let long : length s ≡ suc (length (escape t ++ 34 ∷ [])) = ap length is in
    let first : get_or s 0 0 ≡ 34 = ap (λ b. get_or b 0 0) is in
    IsCharBoundary-after_ascii s 0 c.as_str.utf8 (omega (arith, long)) (omega (arith, first))

use Rattle.std.proofs.Common.{◌≡◌, ◌==◌, ℕ, List, Some, None, position, take, drop, rules, ap, sym, ◌∙◌}
use Rattle.std.proofs.lemmas.List.Quantifiers.{position-Some}
use Rattle.std.proofs.lemmas.Str.{IsCharBoundary-before_ascii}
use Rattle.uri_ref.proofs.Cuts.{before_some, before_none, slash_is_ascii}
use Rattle.uri_ref.proofs.splitting.split_before_slash.Goals as goal

pub returns-in-Some-clause-before : goal.returns-in-Some-clause-before
returns-in-Some-clause-before c =
    let found : position (λ d. d == 47) c.args.text.now ≡ Some c.in-Some.at = ap (position (λ d. d == 47)) (sym c.as_bytes.ensures.value) ∙ sym c.in-Some.ensures in
    let run : c.range.result.now ≡ take c.in-Some.at c.args.text.now = search rules in
    run ∙ ap (λ (r : List ℕ × List ℕ). r.0) (sym (before_some (λ d. d == 47) c.args.text.now c.in-Some.at found))

pub returns-in-Some-clause-rest : goal.returns-in-Some-clause-rest
returns-in-Some-clause-rest c =
    let found : position (λ d. d == 47) c.args.text.now ≡ Some c.in-Some.at = ap (position (λ d. d == 47)) (sym c.as_bytes.ensures.value) ∙ sym c.in-Some.ensures in
    let run : c.range_from.result.now ≡ drop c.in-Some.at c.args.text.now = search rules in
    run ∙ ap (λ (r : List ℕ × List ℕ). r.1) (sym (before_some (λ d. d == 47) c.args.text.now c.in-Some.at found))

pub returns-in-None-clause-before : goal.returns-in-None-clause-before
returns-in-None-clause-before c =
    let found : position (λ d. d == 47) c.args.text.now ≡ None = ap (position (λ d. d == 47)) (sym c.as_bytes.ensures.value) ∙ sym c.in-None.ensures in
    ap (λ (r : List ℕ × List ℕ). r.0) (sym (before_none (λ d. d == 47) c.args.text.now found))

pub returns-in-None-clause-rest : goal.returns-in-None-clause-rest
returns-in-None-clause-rest c =
    let found : position (λ d. d == 47) c.args.text.now ≡ None = ap (position (λ d. d == 47)) (sym c.as_bytes.ensures.value) ∙ sym c.in-None.ensures in
    ap (λ (r : List ℕ × List ℕ). r.1) (sym (before_none (λ d. d == 47) c.args.text.now found))

pub range-requires-clause-end_boundary : goal.range-requires-clause-end_boundary
range-requires-clause-end_boundary c =
    let found : position (λ d. d == 47) c.args.text.now ≡ Some c.in-Some.at = ap (position (λ d. d == 47)) (sym c.as_bytes.ensures.value) ∙ sym c.in-Some.ensures in
    let at = position-Some (λ d. d == 47) c.args.text.now c.in-Some.at 0 found in
    IsCharBoundary-before_ascii c.args.text.now c.in-Some.at at.0 (slash_is_ascii _ at.1)

pub range_from-requires : goal.range_from-requires
range_from-requires c _ =
    let found : position (λ d. d == 47) c.args.text.now ≡ Some c.in-Some.at = ap (position (λ d. d == 47)) (sym c.as_bytes.ensures.value) ∙ sym c.in-Some.ensures in
    let at = position-Some (λ d. d == 47) c.args.text.now c.in-Some.at 0 found in
    IsCharBoundary-before_ascii c.args.text.now c.in-Some.at at.0 (slash_is_ascii _ at.1)

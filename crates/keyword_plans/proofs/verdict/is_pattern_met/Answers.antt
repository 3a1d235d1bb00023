use Rattle.std.proofs.Common.{◌∙◌, sym, ap}
use Rattle.std.proofs.lemmas.Result.{IfOk-weaker}
use Rattle.definitions.specs.Values.{as_string}
use Rattle.json_doc.specs.Docs.{value}
use Rattle.keyword_plans.proofs.Matching.{same_shown}
use Rattle.keyword_plans.proofs.Patterns.{pattern-of, pattern_holds-strings}
use Rattle.keyword_plans.proofs.verdict.is_pattern_met.Goals as goal

pub returns-in-Some-as_str-clause-met : goal.returns-in-Some-as_str-clause-met
returns-in-Some-as_str-clause-met c a shows same e =
    let v = value c.args.pattern.now in
    let all = pattern_holds-strings v a.instance c.in-Some.pattern.now c.in-Some-as_str.text.now c.in-Some.ensures (c.in-Some-as_str.ensures ∙ ap as_string (sym shows.instance)) in
    IfOk-weaker c.is_match.result _ _ (λ b d. d ∙ all) (c.is_match.ensures.ok a.schema (same_shown _ c.args.application a same shows) shows.resource (pattern-of a.schema v c.in-Some.pattern.now e c.in-Some.ensures))

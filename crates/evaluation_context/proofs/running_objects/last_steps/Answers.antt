use Rattle.std.proofs.Common.{◌≡◌, ◌-◌, length, drop, sym, ap, ◌∙◌}
use Rattle.std.proofs.lemmas.List.{drop-map, length-map, take_rest}
use Rattle.locations.specs.Steps.{token, tokens}
use Rattle.evaluation_context.proofs.running_objects.last_steps.Goals as goal

pub returns : goal.returns
returns c =
    let steps = c.args.steps.now in
    let start : c.saturating_sub.result ≡ length (tokens steps) - c.args.count = c.saturating_sub.ensures ∙ ap (λ n. n - c.args.count) (sym (length-map steps token)) in
    ap tokens (take_rest steps c.saturating_sub.result) ∙ sym (drop-map token c.saturating_sub.result steps) ∙ ap (λ n. drop n (tokens steps)) start

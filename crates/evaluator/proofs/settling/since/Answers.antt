use Rattle.std.proofs.Common.{drop, ap, ◌∙◌}
use Rattle.std.proofs.lemmas.List.{drop_min, take_rest}
use Rattle.evaluator.proofs.settling.since.Goals as goal

pub returns : goal.returns
returns g c = take_rest c.args.items.now c.min.result ∙ ap (λ n. drop n c.args.items.now) c.min.ensures ∙ drop_min c.args.number c.args.items.now

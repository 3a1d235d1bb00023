use Rattle.std.proofs.Common.{ap, refl, ◌∙◌, ◌≡◌, ℕ, List, [], Option, Some, None, option_map, unwrap_or, Bor}
use Rattle.clap.specs.Words.{found_of}
use Rattle.clap.proofs.WalkLemmas.{first_value-rows}
use Rattle.command_line.proofs.values.value.Goals as goal

now-unwrap_or : (o : Option (Bor (List ℕ))) (d : Bor (List ℕ)) → (unwrap_or o d).now ≡ unwrap_or (option_map (λ s. s.now) o) d.now
now-unwrap_or None d = refl
now-unwrap_or (Some s) d = refl

pub returns : goal.returns
returns c =
    ap (λ (s : Bor (List ℕ)). s.now) c.unwrap_or.ensures
    ∙ now-unwrap_or c.get_str.result _
    ∙ ap (λ o. unwrap_or o []) (c.get_str.ensures ∙ first_value-rows (found_of c.args.matches.now) c.args.id.now)

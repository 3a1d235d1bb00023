use Rattle.std.proofs.Common.{◌≡◌, ◌∙◌, ap, sym, [], option_map, unwrap_or, map}
use Rattle.std.proofs.lemmas.Result.{IfOk-weaker}
use Rattle.clap.specs.Words.{found_of, rows_of, all_of}
use Rattle.clap.proofs.WalkLemmas.{raw_values-rows}
use Rattle.command_line.proofs.values.values.Goals as goal

pub returns-in-Some : goal.returns-in-Some
returns-in-Some c =
    let found : map (λ v. v.now) c.in-Some.values.now ≡ unwrap_or (all_of c.args.id.now (rows_of (found_of c.args.matches.now))) [] =
    ap (λ x. unwrap_or x []) (ap (option_map (λ s. map (λ v. v.now) s.now)) (sym c.in-Some.is) ∙ c.get_strs.ensures ∙ raw_values-rows (found_of c.args.matches.now) c.args.id.now) in
    IfOk-weaker c.to_vec.result _ _ (λ v h. ap (map (λ s. s.now)) (h (λ x y e. e)) ∙ found) c.to_vec.ensures.items_if_clones_equal

pub returns-in-None : goal.returns-in-None
returns-in-None c =
    rw c.new.ensures.items (ap (λ x. unwrap_or x []) (ap (option_map (λ s. map (λ v. v.now) s.now)) (sym c.in-None.is) ∙ c.get_strs.ensures ∙ raw_values-rows (found_of c.args.matches.now) c.args.id.now))

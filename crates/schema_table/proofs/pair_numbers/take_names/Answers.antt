use Rattle.std.proofs.Common.{cond, None, ap, ◌∙◌}
use Rattle.std.proofs.lemmas.Map.Text.{btree_map_updates_text}
use Rattle.std.specs.BTreeMap.{get_by_text}
use Rattle.lemmas.proofs.Texts.{same_text_turned}
use Rattle.schema_table.proofs.pair_numbers.take_names.Goals as goal

pub returns-in-Some-clause-others : goal.returns-in-Some-clause-others
returns-in-Some-clause-others c = λ u e.
    btree_map_updates_text c.args.uri.now c.args.numbers.now c.remove.new.self None c.remove.ensures.updates u
    ∙ ap (λ b. cond b None (get_by_text c.args.numbers.now u)) (same_text_turned c.args.uri.now u ∙ e)

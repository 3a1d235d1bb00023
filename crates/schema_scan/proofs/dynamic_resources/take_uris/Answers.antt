use Rattle.std.proofs.Common.{cond, None, ap, ◌∙◌}
use Rattle.std.proofs.lemmas.Map.Text.{btree_map_updates_text}
use Rattle.std.specs.BTreeMap.{get_by_text}
use Rattle.lemmas.proofs.Texts.{same_text_turned}
use Rattle.schema_scan.proofs.dynamic_resources.take_uris.Goals as goal

pub returns-in-Some-clause-others : goal.returns-in-Some-clause-others
returns-in-Some-clause-others c = λ n e.
    btree_map_updates_text c.args.name.now c.args.resources.now c.remove.new.self None c.remove.ensures.updates n
    ∙ ap (λ b. cond b None (get_by_text c.args.resources.now n)) (same_text_turned c.args.name.now n ∙ e)

use Rattle.std.proofs.Common.{cond, Some, string_bytes, ap, ◌∙◌}
use Rattle.std.proofs.lemmas.Map.Text.{btree_map_updates_text}
use Rattle.std.specs.BTreeMap.{get_by_text}
use Rattle.definitions.specs.Values.{same_text}
use Rattle.schema_table.proofs.Paired.{pair-added}
use Rattle.schema_table.proofs.pair_numbers.add_pair.Goals as goal

pub returns : goal.returns
returns c =
    let before = c.take_names-names.result in
    let rest = c.take_names-names.new.numbers in
    let names = c.insert.new.self in
    pair-added c.args.numbers.now rest c.insert-2.new.self before names c.args.uri.now c.args.name.now c.args.number
    (λ u. btree_map_updates_text (string_bytes c.in_ok-from_str-2.field-0) rest c.insert-2.new.self (Some names) c.in_ok-insert-2.ensures.updates u
    ∙ ap (λ k. cond (same_text k u) (Some names) (get_by_text rest u)) c.in_ok-from_str-2.ensures.ok)
    (λ n. btree_map_updates_text (string_bytes c.in_ok-from_str.field-0) before names (Some c.args.number) c.in_ok-insert.ensures.updates n
    ∙ ap (λ k. cond (same_text k n) (Some c.args.number) (get_by_text before n)) c.in_ok-from_str.ensures.ok)
    c.take_names-names.ensures.names c.take_names-names.ensures.others

use Rattle.std.proofs.Common.{cond, true, Some, string_bytes, ap, ◌∙◌}
use Rattle.std.proofs.lemmas.Map.Text.{btree_map_updates_text, btree_set_updates_text}
use Rattle.std.specs.BTreeMap.{get_by_text}
use Rattle.std.specs.BTreeSet.{contains_text}
use Rattle.definitions.specs.Values.{same_text}
use Rattle.schema_scan.proofs.Named.{resource-added}
use Rattle.schema_scan.proofs.dynamic_resources.add_uri.Goals as goal

pub returns : goal.returns
returns c =
    let before = c.take_uris-uris.result in
    let rest = c.take_uris-uris.new.resources in
    let uris = c.insert.new.self in
    resource-added c.args.resources.now rest c.insert-2.new.self before uris c.args.uri.now c.args.name.now
    (λ n. btree_map_updates_text (string_bytes c.in_ok-from_str-2.field-0) rest c.insert-2.new.self (Some uris) c.in_ok-insert-2.ensures.updates n
    ∙ ap (λ k. cond (same_text k n) (Some uris) (get_by_text rest n)) c.in_ok-from_str-2.ensures.ok)
    (λ u. btree_set_updates_text (string_bytes c.in_ok-from_str.field-0) before uris true c.in_ok-insert.ensures.updates u
    ∙ ap (λ k. cond (same_text k u) true (contains_text before u)) c.in_ok-from_str.ensures.ok)
    c.take_uris-uris.ensures.uris c.take_uris-uris.ensures.others

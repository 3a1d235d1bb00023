use Rattle.std.proofs.Common.{Some, cond, sym, ap, ◌∙◌, string_bytes}
use Rattle.std.proofs.lemmas.Map.Text.{btree_map_updates_text}
use Rattle.std.specs.BTreeMap.{get_by_text}
use Rattle.definitions.specs.Values.{same_text}
use Rattle.linker.proofs.NumberedResources.{put_where_none}
use Rattle.linker.proofs.compound_documents.number_uri.Goals as goal

pub returns-in_ok-insert : goal.returns-in_ok-insert
returns-in_ok-insert c = λ other.
    let old = c.args.numbers.now in
    put_where_none old c.insert.new.self c.args.uri.now other c.args.number
    (λ t. btree_map_updates_text (string_bytes c.in_ok-to_owned.field-0) old c.insert.new.self (Some c.args.number) c.in_ok-insert.ensures.updates t
    ∙ ap (λ k. cond (same_text k t) (Some c.args.number) (get_by_text old t)) c.in_ok-to_owned.ensures.ok)
    (sym c.contains_key.ensures ∙ c.if-not-contains_key.true)

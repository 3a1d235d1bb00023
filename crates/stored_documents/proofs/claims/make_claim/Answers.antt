use Rattle.std.proofs.Common.{Some, is_some, sym, ap, ◌∙◌, string_bytes}
use Rattle.std.proofs.lemmas.Map.Text.{btree_map_updates_text}
use Rattle.std.specs.BTreeMap.{get_by_text}
use Rattle.stored_documents.proofs.ClaimMaps.{written_there, unwritten_there}
use Rattle.stored_documents.proofs.claims.make_claim.Goals as goal

pub returns-in-Ok : goal.returns-in-Ok
returns-in-Ok c =
    let key = string_bytes c.args.uri in
    written_there c.args.claims.now c.insert.new.self key c.args.document
    (btree_map_updates_text key c.args.claims.now c.insert.new.self (Some c.args.document) c.in-Ok.ensures.updates)
    (ap (λ t. is_some (get_by_text c.args.claims.now t)) (sym c.as_str.ensures.value) ∙ sym c.contains_key.ensures ∙ c.if-contains_key.true)

pub returns-else-contains_key : goal.returns-else-contains_key
returns-else-contains_key c =
    unwritten_there c.args.claims.now (string_bytes c.args.uri) c.args.document
    (ap (λ t. is_some (get_by_text c.args.claims.now t)) (sym c.as_str.ensures.value) ∙ sym c.contains_key.ensures ∙ c.if-contains_key.false)

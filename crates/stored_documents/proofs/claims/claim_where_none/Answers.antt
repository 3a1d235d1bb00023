use Rattle.std.proofs.Common.{◌≡◌, ◌∷◌, [], Some, false, refl, is_some, sym, ap, ◌∙◌, string_bytes}
use Rattle.std.proofs.lemmas.Map.Text.{btree_map_updates_text}
use Rattle.std.specs.BTreeMap.{get_by_text}
use Rattle.stored_documents.specs.Claims.{claim_of}
use Rattle.stored_documents.proofs.ClaimMaps.{claims_stay, kept_where_none, claimed_now, claimed_before, only_same, only_written}
use Rattle.stored_documents.proofs.claims.claim_where_none.Goals as goal

pub returns-in_err-insert-clause-kept : goal.returns-in_err-insert-clause-kept
returns-in_err-insert-clause-kept c = claims_stay c.args.claims.now c.insert.new.self c.in_err-insert.ensures.err

pub returns-in_ok-insert-clause-kept : goal.returns-in_ok-insert-clause-kept
returns-in_ok-insert-clause-kept c =
    let key = string_bytes c.in_ok-own_uri.own_uri in
    let none : is_some (get_by_text c.args.claims.now key) ≡ false =
    ap (λ t. is_some (get_by_text c.args.claims.now t)) c.in_ok-own_uri.ensures.ok ∙ sym c.contains_key.ensures ∙ c.if-not-contains_key.true in
    kept_where_none c.args.claims.now c.insert.new.self key c.in_ok-own_document.own_document
    (btree_map_updates_text key c.args.claims.now c.insert.new.self (Some c.in_ok-own_document.own_document) c.in_ok-insert.ensures.updates) none

pub returns-in_ok-insert-clause-claimed : goal.returns-in_ok-insert-clause-claimed
returns-in_ok-insert-clause-claimed c =
    let key = string_bytes c.in_ok-own_uri.own_uri in
    ap (λ t. is_some (claim_of c.insert.new.self t)) (sym c.in_ok-own_uri.ensures.ok)
    ∙ claimed_now c.args.claims.now c.insert.new.self key c.in_ok-own_document.own_document
    (btree_map_updates_text key c.args.claims.now c.insert.new.self (Some c.in_ok-own_document.own_document) c.in_ok-insert.ensures.updates)

pub returns-else-not-contains_key-clause-claimed : goal.returns-else-not-contains_key-clause-claimed
returns-else-not-contains_key-clause-claimed c = claimed_before c.args.claims.now c.args.uri.now (sym c.contains_key.ensures ∙ c.if-not-contains_key.false)

pub returns-in_err-own_uri-clause-only : goal.returns-in_err-own_uri-clause-only
returns-in_err-own_uri-clause-only c = only_same c.args.claims.now c.args.claims.now (c.args.uri.now ∷ []) refl

pub returns-in_err-own_document-clause-only : goal.returns-in_err-own_document-clause-only
returns-in_err-own_document-clause-only c = only_same c.args.claims.now c.args.claims.now (c.args.uri.now ∷ []) refl

pub returns-in_err-insert-clause-only : goal.returns-in_err-insert-clause-only
returns-in_err-insert-clause-only c = only_same c.args.claims.now c.insert.new.self (c.args.uri.now ∷ []) c.in_err-insert.ensures.err

pub returns-in_ok-insert-clause-only : goal.returns-in_ok-insert-clause-only
returns-in_ok-insert-clause-only c =
    let key = string_bytes c.in_ok-own_uri.own_uri in
    only_written c.args.claims.now c.insert.new.self key c.args.uri.now c.in_ok-own_document.own_document c.in_ok-own_uri.ensures.ok
    (btree_map_updates_text key c.args.claims.now c.insert.new.self (Some c.in_ok-own_document.own_document) c.in_ok-insert.ensures.updates)

pub returns-else-not-contains_key-clause-only : goal.returns-else-not-contains_key-clause-only
returns-else-not-contains_key-clause-only c = only_same c.args.claims.now c.args.claims.now (c.args.uri.now ∷ []) refl

use Rattle.std.proofs.Common.{List, ◌++◌, ◌∷◌, [], map, take, string_bytes, ap, sym, ◌∙◌, append_assoc, append-nil}
use Rattle.std.proofs.lemmas.List.{take_all}
use Rattle.std.specs.Global.{Global}
use Rattle.std.specs.declared.string.String.{String}
use Rattle.definitions.specs.Documents.{resources_of}
use Rattle.definitions.specs.Values.{Text}
use Rattle.stored_documents.specs.Claims.{claims_in, own_claims}
use Rattle.stored_documents.specs.StoredDocuments.{stored_view}
use Rattle.stored_documents.proofs.MadeClaims.{uris_claimed}
use Rattle.stored_documents.proofs.claims.push_claims.Goals as goal

pub loop-uri-init : goal.loop-uri-init
loop-uri-init c = sym (append-nil (claims_in c.args.new_claims.now.items))

pub loop-uri-preserved : goal.loop-uri-preserved
loop-uri-preserved c =
    let l = c.loop-uri in
    let before = claims_in c.args.new_claims.now.items in
    let canonical = (stored_view c.args.document.now.value).canonical in
    let items : List (String Global) = c.resource_uris-uri-items.result.now in
    let paired : Text → Text × Text = λ u. (u, canonical) in
    let part = map paired (map string_bytes (take l.uri-index items)) in
    c.in_ok-push_claim.ensures
    ∙ ap (λ u. claims_in l.new_claims.items ++ (u, canonical) ∷ []) c.as_str.ensures.value
    ∙ ap (λ (ps : List (Text × Text)). ps ++ (string_bytes c.uri-item.result, canonical) ∷ []) l.invariant
    ∙ append_assoc before part ((string_bytes c.uri-item.result, canonical) ∷ [])
    ∙ ap (λ ps. before ++ ps) (sym (uris_claimed canonical items l.uri-index c.uri-item.result c.loop-uri-test.true c.uri-item.is))

pub returns : goal.returns
unfolding own_claims
returns c =
    let before = claims_in c.args.new_claims.now.items in
    let canonical = (stored_view c.args.document.now.value).canonical in
    let items : List (String Global) = c.resource_uris-uri-items.result.now in
    let paired : Text → Text × Text = λ u. (u, canonical) in
    c.loop-uri.invariant
    ∙ ap (λ (us : List Text). before ++ map paired us)
    (ap (map string_bytes) (take_all c.loop-uri.uri-index items c.loop-uri-test.false) ∙ c.resource_uris-uri-items.ensures ∙ ap (λ s. resources_of (stored_view s)) c.deref.ensures)

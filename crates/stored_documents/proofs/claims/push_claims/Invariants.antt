use Rattle.std.proofs.Common.{◌≡◌, ◌++◌, map, take, string_bytes}
use Rattle.stored_documents.specs.Claims.{claims_in}
use Rattle.stored_documents.specs.StoredDocuments.{stored_view}
use Rattle.stored_documents.proofs.claims.push_claims.Given as goal

abbrev pub invariant-loop-uri : goal.invariant-loop-uri
invariant-loop-uri l =
    claims_in l.new_claims.items ≡ claims_in l.initial.new_claims.items ++ map (λ u. (u, (stored_view l.document.value).canonical)) (map string_bytes (take l.uri-index l.uri-items))

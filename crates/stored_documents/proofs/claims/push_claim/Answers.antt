use Rattle.std.proofs.Common.{◌++◌, ◌∷◌, [], ap, ap₂, ◌∙◌}
use Rattle.stored_documents.specs.Claims.{claims_in}
use Rattle.stored_documents.specs.StoredDocuments.{stored_view}
use Rattle.stored_documents.proofs.MadeClaims.{claims_pushed}
use Rattle.stored_documents.proofs.claims.push_claim.Goals as goal

pub returns : goal.returns
returns c =
    let before = claims_in c.args.new_claims.now.items in
    ap claims_in c.in_ok-push.ensures.items
    ∙ claims_pushed c.args.new_claims.now.items (c.in_ok-own_uri.own_uri, c.in_ok-own_document.own_document)
    ∙ ap₂ (λ u s. before ++ (u, (stored_view s).canonical) ∷ []) c.in_ok-own_uri.ensures.ok c.in_ok-own_document.ensures.cases

use Rattle.std.proofs.Common.{◌≡◌, take}
use Rattle.stored_documents.specs.Claims.{claims_in, claims_of}
use Rattle.stored_documents.specs.SharedStored.{stored_documents}
use Rattle.stored_documents.proofs.claims.claims_to_make.Given as goal

abbrev pub invariant-loop-document : goal.invariant-loop-document
invariant-loop-document l = claims_in l.new_claims.items ≡ claims_of (stored_documents (take l.document-index l.documents))

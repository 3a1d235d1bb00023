use Rattle.std.proofs.Common.{◌≡◌, take, option_map, flat_map}
use Rattle.definitions.specs.Reach.{least}
use Rattle.linker.specs.Missing.{missing_in}
use Rattle.linker.specs.SharedDocuments.{shared_documents}
use Rattle.linker.proofs.judging.least_missing.Given as goal

abbrev pub invariant-loop-document : goal.invariant-loop-document
invariant-loop-document l =
    option_map (λ t. t.now) l.found ≡ least (flat_map (missing_in (shared_documents l.documents)) (shared_documents (take l.document-index l.documents)))

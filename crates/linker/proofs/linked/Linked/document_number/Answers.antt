use Rattle.std.proofs.Common.{◌≡◌, find, option_and_then, subst}
use Rattle.std.specs.List.{slice_get}
use Rattle.definitions.specs.Reach.{holds_resource}
use Rattle.linker.specs.LinkedDocuments.{linked_documents}
use Rattle.linker.specs.SharedDocuments.{shared_documents}
use Rattle.linker.proofs.linked.Linked.document_number.Goals as goal

pub returns : goal.returns
unfolding linked_documents
returns c =
    subst (λ ds. option_and_then (slice_get (shared_documents ds)) c.holder_number.result ≡ find (holds_resource c.args.uri.now) (shared_documents ds)) c.as_slice.ensures.value c.holder_number.ensures

use Rattle.std.proofs.Common.{option_and_then, ap₂, ◌∙◌}
use Rattle.std.specs.List.{slice_get}
use Rattle.schema_table.proofs.Paired.{found-by_number}
use Rattle.linker.specs.CompoundDocuments.{compound_documents}
use Rattle.linker.specs.SharedDocuments.{shared_documents}
use Rattle.linker.specs.Sources.{embeds}
use Rattle.linker.proofs.compound_documents.CompoundDocuments.holder.Goals as goal

pub returns : goal.returns
unfolding compound_documents
returns c =
    let ds = compound_documents c.args.self.now in
    c.numbered.ensures
    ∙ ap₂ (λ items n. option_and_then (slice_get (shared_documents items)) n) c.deref.ensures.value c.number.ensures
    ∙ found-by_number (embeds c.args.uri.now) ds

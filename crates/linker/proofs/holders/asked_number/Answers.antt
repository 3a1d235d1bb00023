use Rattle.std.proofs.Common.{option_and_then, ap, sym, ◌∙◌}
use Rattle.std.specs.List.{slice_get}
use Rattle.definitions.specs.Lists.{has_repeat}
use Rattle.definitions.specs.Values.{same_text}
use Rattle.definition_laws.proofs.Resources.{table_uris}
use Rattle.schema_table.proofs.Paired.{found-by_number}
use Rattle.linker.specs.SharedDocuments.{shared_documents}
use Rattle.linker.specs.Sources.{embeds}
use Rattle.linker.proofs.CanonicalHolders.{standing_number, embedding_holder}
use Rattle.linker.proofs.holders.asked_number.Goals as goal

pub returns-in-Ok : goal.returns-in-Ok
returns-in-Ok c =
    sym (standing_number c.args.documents.now c.args.uri.now c.in-Ok.at (ap (has_repeat same_text) (sym (table_uris (shared_documents c.args.documents.now))) ∙ c.requires.distinct)
    c.in-Ok.ensures.found)

pub returns-in-Err : goal.returns-in-Err
returns-in-Err c =
    let ds = shared_documents c.args.documents.now in
    ap (option_and_then (slice_get ds)) c.embedding_number.ensures ∙ found-by_number (embeds c.args.uri.now) ds ∙ embedding_holder c.args.documents.now c.args.uri.now c.in-Err.field-0 c.in-Err.ensures.absent

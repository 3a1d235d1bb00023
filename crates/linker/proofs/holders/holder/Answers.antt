use Rattle.std.proofs.Common.{ap, sym, ◌∙◌}
use Rattle.definitions.specs.Lists.{has_repeat}
use Rattle.definitions.specs.Values.{same_text}
use Rattle.definition_laws.proofs.Resources.{table_uris}
use Rattle.linker.specs.SharedDocuments.{shared_documents}
use Rattle.linker.proofs.CanonicalHolders.{standing_number, embedding_holder}
use Rattle.linker.proofs.holders.holder.Goals as goal

pub returns-in-Ok : goal.returns-in-Ok
returns-in-Ok c =
    c.numbered.ensures
    ∙ sym (standing_number c.args.documents.now c.args.uri.now c.in-Ok.at (ap (has_repeat same_text) (sym (table_uris (shared_documents c.args.documents.now))) ∙ c.requires.distinct)
    c.in-Ok.ensures.found)

pub returns-in-Err : goal.returns-in-Err
returns-in-Err c =
    c.holder.ensures ∙ c.requires.known c.args.uri.now ∙ embedding_holder c.args.documents.now c.args.uri.now c.in-Err.field-0 c.in-Err.ensures.absent

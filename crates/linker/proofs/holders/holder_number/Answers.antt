use Rattle.std.proofs.Common.{◌≡◌, Some, find, ap, sym, ◌∙◌}
use Rattle.definitions.specs.Lists.{has_repeat}
use Rattle.definitions.specs.Values.{same_text}
use Rattle.definition_laws.proofs.Membership.{found_there}
use Rattle.definition_laws.proofs.Resources.{table_uris}
use Rattle.schema_scan.specs.CompiledDocuments.{compiled_view}
use Rattle.schema_scan.specs.declared.compiled.Compiled.{Compiled}
use Rattle.linker.specs.SharedDocuments.{shared_documents}
use Rattle.linker.specs.Sources.{embeds}
use Rattle.linker.proofs.CanonicalHolders.{standing_number, embedding_holder}
use Rattle.linker.proofs.holders.holder_number.Goals as goal

pub returns-in-Ok : goal.returns-in-Ok
returns-in-Ok c =
    sym (standing_number c.args.documents.now c.args.uri.now c.in-Ok.at (ap (has_repeat same_text) (sym (table_uris (shared_documents c.args.documents.now))) ∙ c.requires.distinct)
    c.in-Ok.ensures.found)

pub number_of-requires-clause-inside : goal.number_of-requires-clause-inside
number_of-requires-clause-inside c =
    let ds = shared_documents c.args.documents.now in
    let found : find (embeds c.args.uri.now) ds ≡ Some (compiled_view c.deref.result.now) =
    sym (c.requires.known c.args.uri.now) ∙ sym c.in-Some.ensures ∙ ap (λ (d : Compiled). Some (compiled_view d)) (sym c.deref.ensures) in
    (found_there (embeds c.args.uri.now) ds (compiled_view c.deref.result.now) found).0

pub returns-in-Some : goal.returns-in-Some
returns-in-Some c =
    c.number_of.ensures
    ∙ ap (λ (d : Compiled). Some (compiled_view d)) c.deref.ensures
    ∙ c.in-Some.ensures ∙ c.requires.known c.args.uri.now
    ∙ embedding_holder c.args.documents.now c.args.uri.now c.in-Err.field-0 c.in-Err.ensures.absent

pub returns-in-None : goal.returns-in-None
returns-in-None c =
    c.in-None.ensures ∙ c.requires.known c.args.uri.now ∙ embedding_holder c.args.documents.now c.args.uri.now c.in-Err.field-0 c.in-Err.ensures.absent

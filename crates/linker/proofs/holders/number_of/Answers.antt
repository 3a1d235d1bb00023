use Rattle.std.proofs.Common.{ap, sym, ◌∙◌}
use Rattle.definitions.specs.Lists.{has_repeat}
use Rattle.definitions.specs.Values.{same_text}
use Rattle.definition_laws.proofs.Resources.{table_uris}
use Rattle.definitions.specs.Reach.{holds_resource}
use Rattle.schema_scan.specs.CompiledDocuments.{compiled_view}
use Rattle.linker.specs.SharedDocuments.{shared_documents}
use Rattle.linker.specs.SoundLists.{shared_made}
use Rattle.linker.proofs.CanonicalHolders.{first_holder, own_resource, standing_number}
use Rattle.linker.proofs.holders.number_of.Goals as goal

pub returns-in-Ok : goal.returns-in-Ok
returns-in-Ok c =
    let ds = c.args.documents.now in
    let d = compiled_view c.args.document.now in
    let distinct = ap (has_repeat same_text) (sym (table_uris (shared_documents ds))) ∙ c.requires.distinct in
    let own = ap (λ u. holds_resource u d) c.canonical.ensures ∙ own_resource d (shared_made ds d c.requires.inside) in
    sym (standing_number ds c.canonical.result.now c.in-Ok.at distinct c.in-Ok.ensures.found)
    ∙ first_holder (shared_documents ds) c.canonical.result.now d distinct c.requires.inside own

pub returns-in-Err : goal.returns-in-Err
returns-in-Err c = absurd (c.in-Err.ensures.absent.absent (compiled_view c.args.document.now) c.requires.inside (sym c.canonical.ensures))

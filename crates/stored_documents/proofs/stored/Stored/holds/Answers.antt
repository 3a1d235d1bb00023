use Rattle.std.proofs.Common.{ap, ◌∙◌}
use Rattle.std.specs.List.{list_any}
use Rattle.definitions.specs.Schemas.{schemas_of}
use Rattle.definitions.specs.Values.{same_text}
use Rattle.stored_documents.specs.StoredDocuments.{stored_view}
use Rattle.linker.proofs.HeldResources.{held}
use Rattle.stored_documents.proofs.stored.Stored.holds.Goals as goal

pub returns : goal.returns
returns c =
    let d = stored_view c.args.self.now in
    c.contains.ensures ∙ ap (list_any (same_text c.args.uri.now)) c.args.self.now.opened
    ∙ held c.args.uri.now (schemas_of d.base d.value)

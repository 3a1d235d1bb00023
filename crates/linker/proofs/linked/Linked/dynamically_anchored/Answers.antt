use Rattle.std.proofs.Common.{◌≡◌, IfOk, None, Option, Some, option_map, subst}
use Rattle.definitions.specs.Schemas.{Schema}
use Rattle.schema_scan.specs.CompiledDocuments.{compiled_view}
use Rattle.schema_scan.specs.Locateds.{located_view}
use Rattle.linker.proofs.FirstHolders.{anchored_of_first}
use Rattle.linker.proofs.linked.Linked.dynamically_anchored.Goals as goal

pub returns-in-None : goal.returns-in-None
returns-in-None c = anchored_of_first c.args.self.now c.args.uri.now c.args.name.now None c.in-None.ensures

pub returns-in-Some : goal.returns-in-Some
returns-in-Some c =
    subst (λ (o : Option Schema). IfOk c.dynamically_anchored.result (λ t. option_map located_view t ≡ o))
    (anchored_of_first c.args.self.now c.args.uri.now c.args.name.now (Some (compiled_view c.in-Some.document.now)) c.in-Some.ensures)
    c.dynamically_anchored.ensures

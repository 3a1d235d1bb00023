use Rattle.std.proofs.Common.{◌≡◌, IfOk, Option, option_map, subst}
use Rattle.definitions.specs.Schemas.{Schema}
use Rattle.schema_scan.specs.Locateds.{located_view}
use Rattle.linker.proofs.Distinct.{one_named}
use Rattle.linker.proofs.linked.Linked.schema_of.Goals as goal

pub returns-clause-named : goal.returns-clause-named
returns-clause-named c =
    λ s inside same.
    subst (λ (o : Option Schema). IfOk c.target_by.result (λ t. option_map located_view t ≡ o))
    (one_named c.args.self.now c.args.resource.now c.args.pointer s inside same) c.target_by.ensures

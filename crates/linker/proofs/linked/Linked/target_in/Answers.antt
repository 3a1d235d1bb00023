use Rattle.std.proofs.Common.{◌≡◌, IfOk, Option, Some, option_map, subst}
use Rattle.definitions.specs.Schemas.{Schema}
use Rattle.schema_scan.specs.CompiledDocuments.{compiled_view}
use Rattle.schema_scan.specs.Locateds.{located_view}
use Rattle.uri_ref.specs.FragmentViews.{fragment_view}
use Rattle.linker.proofs.FirstHolders.{target_of_first}
use Rattle.linker.proofs.linked.Linked.target_in.Goals as goal

pub returns : goal.returns
returns c =
    subst (λ (o : Option Schema). IfOk c.target.result (λ t. option_map located_view t ≡ o))
    (target_of_first c.args.self.now c.args.uri.now (fragment_view c.args.fragment.now) (Some (compiled_view c.args.document.now)) c.requires)
    c.target.ensures

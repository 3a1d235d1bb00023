use Rattle.std.proofs.Common.{◌≡◌, IfOk, Option, option_and_then, option_map, subst, ap, ◌∙◌}
use Rattle.definitions.specs.Schemas.{Schema}
use Rattle.json_doc.specs.Docs.{value}
use Rattle.schema_scan.specs.Locateds.{located_view}
use Rattle.schema_table.specs.Lookups.{marked_schema}
use Rattle.schema_scan.proofs.Owned.{owned-anchored}
use Rattle.schema_scan.proofs.compiled.Compiled.anchored.Goals as goal

pub returns-in-Some : goal.returns-in-Some
returns-in-Some c =
    let d = c.args.self.now in
    subst (λ (o : Option Schema). IfOk c.schema_of_anchor.result (λ t. option_map located_view t ≡ o))
    (ap (option_and_then (marked_schema (value d.document))) c.in-Some.ensures ∙ owned-anchored d c.args.uri.now c.args.name.now)
    c.schema_of_anchor.ensures

pub returns-in-None : goal.returns-in-None
returns-in-None c =
    let d = c.args.self.now in
    ap (option_and_then (marked_schema (value d.document))) c.in-None.ensures ∙ owned-anchored d c.args.uri.now c.args.name.now

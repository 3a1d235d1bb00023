use Rattle.std.proofs.Common.{◌≡◌, IfOk, Option, Some, None, cond, option_and_then, option_map, subst, sym, ap, ◌∙◌}
use Rattle.definitions.specs.Schemas.{Schema}
use Rattle.json_doc.specs.Docs.{value}
use Rattle.schema_scan.specs.Locateds.{located_view}
use Rattle.schema_table.specs.Gathering.{anchor_mark}
use Rattle.schema_table.specs.Lookups.{marked_schema}
use Rattle.schema_scan.proofs.Anchors.{owned-dynamic}
use Rattle.schema_scan.proofs.compiled.Compiled.dynamically_anchored.Goals as goal

pub returns-then-anchor : goal.returns-then-anchor
returns-then-anchor c =
    let d = c.args.self.now in
    let m = anchor_mark c.in-Some.anchor.now in
    subst (λ (o : Option Schema). IfOk c.schema_of_anchor.result (λ t. option_map located_view t ≡ o))
    (sym (ap (λ b. option_and_then (marked_schema (value d.document)) (cond b (Some m) None)) c.if-anchor.true)
    ∙ owned-dynamic d c.args.uri.now c.args.name.now (Some m) c.in-Some.ensures)
    c.schema_of_anchor.ensures

pub returns-else-anchor : goal.returns-else-anchor
returns-else-anchor c =
    let d = c.args.self.now in
    let m = anchor_mark c.in-Some.anchor.now in
    sym (ap (λ b. option_and_then (marked_schema (value d.document)) (cond b (Some m) None)) c.if-anchor.false)
    ∙ owned-dynamic d c.args.uri.now c.args.name.now (Some m) c.in-Some.ensures

pub returns-in-None : goal.returns-in-None
returns-in-None c = owned-dynamic c.args.self.now c.args.uri.now c.args.name.now None c.in-None.ensures

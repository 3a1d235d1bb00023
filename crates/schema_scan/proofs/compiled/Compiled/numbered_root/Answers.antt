use Rattle.std.proofs.Common.{◌≡◌, Some, None, map, option_and_then, string_bytes, sym, ap, ◌∙◌}
use Rattle.std.proofs.lemmas.Option.{same_Some}
use Rattle.std.specs.List.{slice_get}
use Rattle.definitions.specs.Targets.{resource_root}
use Rattle.json_doc.specs.Docs.{value}
use Rattle.locations.specs.Ways.{owned_hops}
use Rattle.schema_scan.specs.CompiledDocuments.{compiled_schemas}
use Rattle.schema_table.specs.Gathering.{table_uris, table_ways}
use Rattle.schema_table.specs.Lookups.{root_at}
use Rattle.schema_scan.proofs.Owned.{owned-root, owned-uris}
use Rattle.schema_scan.proofs.compiled.Compiled.numbered_root.Goals as goal

pub returns-in-Some-way_of : goal.returns-in-Some-way_of
unfolding table_uris table_ways
returns-in-Some-way_of c =
    let d = c.args.self.now in
    let n = c.args.number in
    let named = c.in-Some.ensures ∙ ap (λ us. slice_get (map string_bytes us) n) c.deref.ensures.value ∙ ap (λ us. slice_get us n) (owned-uris d) in
    let found = owned-root d _ n (sym named) in
    let way = same_Some _ _ (c.in-Some-way_of.ensures ∙ ap (λ ws. slice_get (map owned_hops ws) n) c.deref-in-Some.ensures.value ∙ found.1) in
    c.root_along.ensures ∙ ap (λ w. root_at c.in-Some.resource.now w (value d.document)) way ∙ found.2
    ∙ ap (option_and_then (resource_root (compiled_schemas d))) named

pub returns-in-None-way_of : goal.returns-in-None-way_of
unfolding table_uris table_ways
returns-in-None-way_of c =
    let d = c.args.self.now in
    let n = c.args.number in
    let named = c.in-Some.ensures ∙ ap (λ us. slice_get (map string_bytes us) n) c.deref.ensures.value ∙ ap (λ us. slice_get us n) (owned-uris d) in
    let found = owned-root d _ n (sym named) in
    let none : None ≡ Some found.0 = c.in-None-way_of.ensures ∙ ap (λ ws. slice_get (map owned_hops ws) n) c.deref-in-Some.ensures.value ∙ found.1 in
    cc

pub returns-in-None : goal.returns-in-None
unfolding table_uris
returns-in-None c =
    let d = c.args.self.now in
    let n = c.args.number in
    ap (option_and_then (resource_root (compiled_schemas d)))
    (c.in-None.ensures ∙ ap (λ us. slice_get (map string_bytes us) n) c.deref.ensures.value ∙ ap (λ us. slice_get us n) (owned-uris d))

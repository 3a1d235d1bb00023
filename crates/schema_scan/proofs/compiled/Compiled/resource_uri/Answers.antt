use Rattle.std.proofs.Common.{◌≡◌, Some, None, map, string_bytes, true≢false, sym, ap, ◌∙◌}
use Rattle.std.proofs.lemmas.Bool.{false_from_ne_true}
use Rattle.std.proofs.lemmas.Option.{same_Some}
use Rattle.std.proofs.lemmas.Slice.Eq.{bytes_eq-Decides}
use Rattle.std.specs.List.{slice_get}
use Rattle.definitions.specs.Reach.{holds_resource}
use Rattle.definitions.specs.Scanning.{resource_uris}
use Rattle.schema_table.specs.Gathering.{table_uris}
use Rattle.schema_scan.specs.CompiledDocuments.{compiled_schemas, compiled_view}
use Rattle.schema_scan.proofs.Known.{held-at}
use Rattle.schema_scan.proofs.Owned.{owned-uris}
use Rattle.schema_scan.proofs.compiled.Compiled.resource_uri.Goals as goal

pub returns-then-eq-clause-held : goal.returns-then-eq-clause-held
unfolding table_uris
returns-then-eq-clause-held c =
    let d = c.args.self.now in
    let n = c.resource_number.result in
    let at : Some c.in-Some.known.now ≡ slice_get (resource_uris (compiled_schemas d)) n =
    c.in-Some.ensures ∙ ap (λ us. slice_get (map string_bytes us) n) c.deref.ensures.value ∙ ap (λ us. slice_get us n) (owned-uris d) in
    sym (held-at d c.args.uri.now n (sym at ∙ ap Some ((bytes_eq-Decides c.in-Some.known.now c.args.uri.now).0 (sym c.eq.ensures ∙ c.if-eq.true))))

pub returns-else-eq-clause-held : goal.returns-else-eq-clause-held
unfolding table_uris
returns-else-eq-clause-held c =
    let d = c.args.self.now in
    let n = c.resource_number.result in
    let at : Some c.in-Some.known.now ≡ slice_get (resource_uris (compiled_schemas d)) n =
    c.in-Some.ensures ∙ ap (λ us. slice_get (map string_bytes us) n) c.deref.ensures.value ∙ ap (λ us. slice_get us n) (owned-uris d) in
    sym (false_from_ne_true (holds_resource c.args.uri.now (compiled_view d)) (λ held.
    true≢false (sym ((bytes_eq-Decides c.in-Some.known.now c.args.uri.now).1 (same_Some _ _ (at ∙ c.resource_number.ensures held))) ∙ sym c.eq.ensures ∙ c.if-eq.false)))

pub returns-in-None-clause-held : goal.returns-in-None-clause-held
unfolding table_uris
returns-in-None-clause-held c =
    let d = c.args.self.now in
    let n = c.resource_number.result in
    sym (false_from_ne_true (holds_resource c.args.uri.now (compiled_view d)) (λ held.
    let none : None ≡ Some c.args.uri.now =
    c.in-None.ensures ∙ ap (λ us. slice_get (map string_bytes us) n) c.deref.ensures.value ∙ ap (λ us. slice_get us n) (owned-uris d) ∙ c.resource_number.ensures held in
    cc))

use Rattle.std.proofs.Common.{◌≡◌, ◌∷◌, map, length, string_bytes, refl, sym, ap, subst, ◌∙◌, ◌≤◌, arith, Contains}
use Rattle.std.proofs.lemmas.List.{nil_from_length}
use Rattle.definitions.specs.Schemas.{below}
use Rattle.definitions.specs.Lists.{option_list}
use Rattle.json_doc.specs.Docs.{value}
use Rattle.locations.specs.Steps.{tokens}
use Rattle.schema_scan.specs.Descents.{pointed_schema}
use Rattle.schema_scan.specs.DescentViews.{tokens_taken}
use Rattle.schema_scan.specs.CompiledDocuments.{compiled_base, compiled_value, compiled_schemas}
use Rattle.schema_scan.specs.Locateds.{located_view}
use Rattle.schema_scan.proofs.Descents.{pointed_here, shorter}
use Rattle.schema_scan.proofs.Subschemas.{with_below}
use Rattle.schema_scan.proofs.compiled.Compiled.at_pointer.Goals as goal

pub below-requires : goal.below-requires
below-requires c =
    let s = located_view c.loop-keyword.here in
    let d = c.in-Some-descend.descent in
    with_below (compiled_base c.args.self.now) (compiled_value c.args.self.now) s (below s (tokens_taken d) (value d.schema.now)) (tokens_taken d)
    c.loop-keyword.invariant.stands (c.in-Some-descend.ensures.stands s refl)

pub loop-keyword-smaller : goal.loop-keyword-smaller
loop-keyword-smaller c =
    let d = c.in-Some-descend.descent in
    let fewer : length d.rest.now ≤ length c.in-Some.rest.now = shorter string_bytes string_bytes c.as_str.result.now d.keyword.now (tokens (option_list d.step)) c.in-Some.rest.now d.rest.now c.in-Some-descend.ensures.begins in
    let whole : length c.loop-keyword.left.now ≡ length (c.in-Some.keyword.now ∷ c.in-Some.rest.now) = ap length c.in-Some.ensures.cases.0 in
    omega arith

pub loop-keyword-preserved : goal.loop-keyword-preserved
loop-keyword-preserved c =
    let s = located_view c.loop-keyword.here in
    let d = c.in-Some-descend.descent in
    let t = below s (tokens_taken d) (value d.schema.now) in
    let stands : Contains (compiled_schemas c.args.self.now) t =
    with_below (compiled_base c.args.self.now) (compiled_value c.args.self.now) s t (tokens_taken d) c.loop-keyword.invariant.stands (c.in-Some-descend.ensures.stands s refl) in
    let whole : map string_bytes c.loop-keyword.left.now ≡ c.as_str.result.now ∷ map string_bytes c.in-Some.rest.now =
    ap (map string_bytes) c.in-Some.ensures.cases.0 ∙ ap (λ k. k ∷ map string_bytes c.in-Some.rest.now) (sym c.as_str.ensures.value) in
    record {
      stands = subst (Contains (compiled_schemas c.args.self.now)) (sym c.in_ok-here.ensures) stands;
      leads =
          c.loop-keyword.invariant.leads ∙ ap (λ way. pointed_schema way s) whole ∙ c.in-Some-descend.ensures.leads s refl
          ∙ ap (pointed_schema (map string_bytes d.rest.now)) (sym c.in_ok-here.ensures);
    }

pub returns : goal.returns
returns c =
    sym (c.loop-keyword.invariant.leads ∙ ap (λ left. pointed_schema (map string_bytes left) (located_view c.loop-keyword.here)) (nil_from_length c.loop-keyword.left.now c.in_default.ensures.cases) ∙ pointed_here (located_view c.loop-keyword.here))

pub returns-in_default-descend : goal.returns-in_default-descend
returns-in_default-descend c =
    let s = located_view c.loop-keyword.here in
    let whole : map string_bytes c.loop-keyword.left.now ≡ c.as_str.result.now ∷ map string_bytes c.in-Some.rest.now =
    ap (map string_bytes) c.in-Some.ensures.cases.0 ∙ ap (λ k. k ∷ map string_bytes c.in-Some.rest.now) (sym c.as_str.ensures.value) in
    sym (c.loop-keyword.invariant.leads ∙ ap (λ way. pointed_schema way s) whole ∙ c.in_default-descend.ensures s refl)

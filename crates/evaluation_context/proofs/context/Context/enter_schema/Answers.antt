use Rattle.std.proofs.Common.{◌≡◌, [], Some, option_map, sym, ap, ◌∙◌, codes}
use Rattle.definitions.specs.Values.{text_at}
use Rattle.definitions.specs.Schemas.{Identity, schema_at, opened_schema}
use Rattle.definitions.specs.Resolution.{target_uri}
use Rattle.definitions.specs.Uris.{without_fragment}
use Rattle.basic_output.specs.PointerViews.{origin_view}
use Rattle.linker.specs.OpenedSchemas.{Opens}
use Rattle.keyword_plans.specs.ScopeViews.{scope_documents}
use Rattle.evaluation_context.specs.Moves.{at_origin}
use Rattle.evaluation_context.specs.Frames.{context_view, frame_standing}
use Rattle.evaluation_context.proofs.FrameLaws.{schema_entered, schema_stays, onward_at, onward_origin}
use Rattle.evaluation_context.proofs.context.Context.enter_schema.Goals as goal

pub returns-in_ok-origin-in-Some-clause-there : goal.returns-in_ok-origin-in-Some-clause-there
returns-in_ok-origin-in-Some-clause-there c = λ parent v opens known around contains.
    let f = context_view c.args.self.now in
    let st = frame_standing f in
    let s = schema_at st.resource st.pointer v in
    let is : text_at (codes "$id") v ≡ Some c.in-Some.id.now = sym opens ∙ ap (option_map (λ t. t.now)) c.in-Some.is in
    let root : s.pointer ≡ [] = ap (λ o. (opened_schema st.resource st.pointer v o).pointer) is in
    let resource : s.resource ≡ without_fragment (target_uri st.resource c.in-Some.id.now) =
    ap (λ o. (opened_schema st.resource st.pointer v o).resource) is in
    let has : text_at (codes "$id") s.value ≡ Some c.in-Some.id.now = ap (λ o. text_at (codes "$id") (opened_schema st.resource st.pointer v o).value) is ∙ is in
    let i = origin_view c.in_ok-origin-in-Some.origin.value in
    let same : i ≡ (c.in_ok-resource-in-Some.resource.now, []) =
    ap origin_view c.in_ok-origin-in-Some.ensures.ok ∙ c.root.ensures in
    let opens : Opens (scope_documents c.args.self.now.scope).now s st.resource c.in-Some.id.now = record { inside = contains; root = root; resource = resource; has = has } in
    ap frame_standing (c.enter_origin.ensures.moved ∙ ap (at_origin i) c.in_ok-resource-in-Some.ensures.same)
    ∙ schema_entered i s f (ap (λ (j : Identity). j.0) same ∙ c.in_ok-resource-in-Some.ensures.ok parent s known around opens) (ap (λ (j : Identity). j.1) same ∙ sym root)

pub returns-in_ok-origin-in-Some-clause-onward : goal.returns-in_ok-origin-in-Some-clause-onward
returns-in_ok-origin-in-Some-clause-onward c =
    onward_at (c.enter_origin.ensures.moved ∙ ap (at_origin (origin_view c.in_ok-origin-in-Some.origin.value)) c.in_ok-resource-in-Some.ensures.same) (onward_origin (origin_view c.in_ok-origin-in-Some.origin.value) (context_view c.args.self.now))

pub returns-in-None-clause-there : goal.returns-in-None-clause-there
returns-in-None-clause-there c = λ parent v opens known around contains.
    let st = frame_standing (context_view c.args.self.now) in
    schema_stays st v (ap (opened_schema st.resource st.pointer v) (ap (option_map (λ t. t.now)) (sym c.in-None.is) ∙ opens))

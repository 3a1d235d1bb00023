use Rattle.std.proofs.Common.{◌≡◌, [], Bor, Contains, OnOk, ap, ◌∙◌, subst}
use Rattle.definitions.specs.Schemas.{Schema, schema_at}
use Rattle.linker.specs.declared.linked.Linked.{Linked}
use Rattle.keyword_plans.specs.ScopeViews.{scope_documents}
use Rattle.std.proofs.lemmas.Result.{IfOk-weaker, on_ok_weaker}
use Rattle.json_doc.specs.Docs.{value}
use Rattle.linker.specs.LinkedDocuments.{linked_schemas}
use Rattle.basic_output.specs.PointerViews.{origin_view}
use Rattle.applicators.specs.Plans.{step_view}
use Rattle.evaluation_context.specs.Frames.{Frame, context_view, frame_standing}
use Rattle.evaluation_context.specs.Moves.{Onward, standing_at}
use Rattle.evaluation_context.proofs.FrameLaws.{context_within, onward_at, onward_origin, onward_stepped, onward_onward, origin_below}
use Rattle.evaluation_context.proofs.PlannedLaws.{below_there, target_there}
use Rattle.evaluation_context.proofs.context.Context.enter_chosen.Goals as goal

pub returns-in_ok-enter_step-in_default-clause-there : goal.returns-in_ok-enter_step-in_default-clause-there
returns-in_ok-enter_step-in_default-clause-there c parent opens =
    let v = value c.args.planned.now.schema.now in
    let g = frame_standing (context_view c.enter_step.new.self) in
    let s = schema_at g.resource g.pointer v in
    let there : (p : Schema) → Contains (linked_schemas (scope_documents c.args.self.now.scope).now) p → p.resource ≡ g.resource
    → Contains (linked_schemas (scope_documents c.args.self.now.scope).now) s → OnOk c.enter_schema.result (frame_standing (context_view c.enter_schema.new.self) ≡ standing_at [] s g) =
    subst (λ (l : Bor Linked). (p : Schema) → Contains (linked_schemas l.now) p → p.resource ≡ g.resource → Contains (linked_schemas l.now) s
    → OnOk c.enter_schema.result (frame_standing (context_view c.enter_schema.new.self) ≡ standing_at [] s g))
    c.in_ok-enter_step-in_default.ensures.documents (λ p. c.enter_schema.ensures.there p v opens) in
    below_there c.enter_schema.result (linked_schemas (scope_documents c.args.self.now.scope).now) (context_view c.args.self.now) (context_view c.enter_step.new.self) (context_view c.enter_schema.new.self)
    c.args.planned.now.way v c.step.result
    (context_within c.args.self.now) c.in_default.not-Target c.step.ensures c.in_ok-enter_step-in_default.ensures.moved there parent

pub returns-in_ok-enter_step-in_default-clause-onward : goal.returns-in_ok-enter_step-in_default-clause-onward
returns-in_ok-enter_step-in_default-clause-onward c =
    let first : Onward (context_view c.args.self.now) (context_view c.enter_step.new.self) =
    onward_at c.in_ok-enter_step-in_default.ensures.moved (onward_stepped (step_view c.step.result) (context_view c.args.self.now)) in
    on_ok_weaker c.enter_schema.result (λ next. onward_onward first next) c.enter_schema.ensures.onward

pub returns-in_ok-enter_step-in_default-clause-left : goal.returns-in_ok-enter_step-in_default-clause-left
returns-in_ok-enter_step-in_default-clause-left c =
    let old = context_view c.args.self.now in
    let stays : (context_view c.enter_step.new.self).origin ≡ old.origin = ap (λ (f : Frame). f.origin) c.in_ok-enter_step-in_default.ensures.moved ∙ origin_below (step_view c.step.result) old in
    IfOk-weaker c.enter_schema.result _ _ (λ left before. before ∙ stays) c.enter_schema.ensures.left

pub returns-in_ok-clone-in-Target-clause-there : goal.returns-in_ok-clone-in-Target-clause-there
returns-in_ok-clone-in-Target-clause-there c = λ parent opens known resource contains.
    target_there (context_view c.args.self.now) (context_view c.enter_origin-left.new.self) c.args.planned.now.way (value c.args.planned.now.schema.now) c.in-Target.origin (origin_view c.in_ok-clone-in-Target.field-0.value) c.in-Target.is
    (ap origin_view c.in_ok-clone-in-Target.ensures.cases) c.enter_origin-left.ensures.moved

pub returns-in_ok-clone-in-Target-clause-onward : goal.returns-in_ok-clone-in-Target-clause-onward
returns-in_ok-clone-in-Target-clause-onward c =
    onward_at c.enter_origin-left.ensures.moved (onward_origin (origin_view c.in_ok-clone-in-Target.field-0.value) (context_view c.args.self.now))

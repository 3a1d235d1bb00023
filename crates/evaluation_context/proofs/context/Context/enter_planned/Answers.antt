use Rattle.std.proofs.Common.{◌≡◌, length, refl, sym, ap, ◌∙◌}
use Rattle.definitions.specs.Applied.{part_location}
use Rattle.json_doc.specs.Docs.{value}
use Rattle.linker.specs.LinkedDocuments.{linked_schemas}
use Rattle.applicators.specs.Plans.{part_view}
use Rattle.keyword_plans.specs.ScopeViews.{scope_documents}
use Rattle.applicators.specs.Subjects.{subject_value}
use Rattle.evaluation_context.specs.Frames.{Frame, context_view, frame_standing}
use Rattle.evaluation_context.specs.Standings.{Standing}
use Rattle.evaluation_context.specs.Moves.{Onward}
use Rattle.evaluation_context.specs.Returns.{origin_before}
use Rattle.evaluation_context.proofs.FrameLaws.{LeadsTo, came_from, context_within, onward_at, onward_placed, onward_onward, origin_placed}
use Rattle.evaluation_context.proofs.RunningLaws.{none_below}
use Rattle.evaluation_context.proofs.PlannedLaws.{front_of_part, planned_there}
use Rattle.evaluation_context.proofs.context.Context.enter_planned.Goals as goal

pub returns-clause-there : goal.returns-clause-there
returns-clause-there c = λ a k opens here known contains.
    let planned = c.args.planned.now in
    let around : a.schema.resource ≡ (frame_standing (context_view c.args.self.now)).resource = sym (ap (λ (st : Standing). st.resource) here) in
    planned_there (linked_schemas (scope_documents c.args.self.now.scope).now) (context_view c.args.self.now) (context_view c.enter_chosen.new.self) (context_view c.enter_part.new.self) a k planned.way (value planned.schema.now) (part_view planned.part) (subject_value planned.subject)
    here c.in_ok-enter_part.ensures.moved (c.in_ok-origin.ensures.there a.schema opens known around) contains

-- the way back leads to where the context stood
leads : (c : goal.In_ok-enter_part) → LeadsTo (record { path = c.len-path.result; origin = c.in_ok-origin.origin; onward = c.args.self.now.onward; instance_location = c.len-instance_location.result; name = c.args.self.now.name }) (context_view c.args.self.now)
unfolding context_view
leads c =
    let old = c.args.self.now in
    let long = c.len-instance_location.ensures ∙ ap length c.instance_location.ensures in
    record {
      path = c.len-path.ensures ∙ ap length c.path.ensures;
      onward = refl;
      within = context_within old;
      instance_location = long;
      name = refl;
      above = none_below old.running c.len-instance_location.result long;
    }

pub returns-clause-entered : goal.returns-clause-entered
returns-clause-entered c =
    let f = context_view c.args.self.now in
    let g = context_view c.enter_chosen.new.self in
    let h = context_view c.enter_part.new.self in
    let place = part_location g.instance_location (part_view c.args.planned.now.part) in
    let last : Onward g h = onward_at c.in_ok-enter_part.ensures.moved (onward_placed place g (front_of_part g.instance_location (part_view c.args.planned.now.part))) in
    let stays : h.origin ≡ g.origin = ap (λ (x : Frame). x.origin) c.in_ok-enter_part.ensures.moved ∙ origin_placed place g in
    came_from _ f h (leads c) (onward_onward c.in_ok-origin.ensures.onward last) (ap (origin_before c.in_ok-origin.origin) stays ∙ c.in_ok-origin.ensures.left)

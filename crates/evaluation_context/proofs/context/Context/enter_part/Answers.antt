use Rattle.std.proofs.Common.{refl, sym, ap, ◌∙◌}
use Rattle.applicators.specs.Plans.{part_view}
use Rattle.definitions.specs.Applied.{name_of, named, part_location}
use Rattle.evaluation_context.specs.Frames.{context_view}
use Rattle.evaluation_context.specs.Moves.{frame_at}
use Rattle.evaluation_context.specs.Runnings.{steps_between}
use Rattle.evaluation_context.proofs.FrameLaws.{same_beyond, same_frames, same_locations}
use Rattle.evaluation_context.proofs.context.Context.enter_part.Goals as goal

pub returns-in-Whole-clause-moved : goal.returns-in-Whole-clause-moved
unfolding context_view frame_at
returns-in-Whole-clause-moved c =
    let old = c.args.self.now in
    same_frames refl refl refl refl refl refl refl refl
    ∙ ap (λ part. frame_at (part_location (context_view old).instance_location (part_view part)) (context_view old)) (sym c.in-Whole.is)

pub returns-in_ok-deepen-in-Member-clause-moved : goal.returns-in_ok-deepen-in-Member-clause-moved
unfolding context_view frame_at
returns-in_ok-deepen-in-Member-clause-moved c =
    let old = c.args.self.now in
    let e = c.in_ok-deepen-in-Member.ensures in
    same_frames e.path refl refl (same_locations e.instance_location refl) refl e.running (ap (steps_between 0) e.ends) (same_beyond e.path e.ends)
    ∙ ap (λ n. frame_at (part_location (context_view old).instance_location (named n)) (context_view old)) c.as_str.ensures
    ∙ ap (λ part. frame_at (part_location (context_view old).instance_location (part_view part)) (context_view old)) (sym c.in-Member.is)

pub returns-in_ok-deepen-in-Element-clause-moved : goal.returns-in_ok-deepen-in-Element-clause-moved
unfolding context_view frame_at
returns-in_ok-deepen-in-Element-clause-moved c =
    let old = c.args.self.now in
    let e = c.in_ok-deepen-in-Element.ensures in
    same_frames e.path refl refl (same_locations e.instance_location refl) refl e.running (ap (steps_between 0) e.ends) (same_beyond e.path e.ends)
    ∙ ap (λ part. frame_at (part_location (context_view old).instance_location (part_view part)) (context_view old)) (sym c.in-Element.is)

pub returns-in-NameOf-clause-moved : goal.returns-in-NameOf-clause-moved
unfolding context_view frame_at
returns-in-NameOf-clause-moved c =
    let old = c.args.self.now in
    same_frames refl refl refl refl refl refl refl refl
    ∙ ap (λ n. frame_at (part_location (context_view old).instance_location (name_of n)) (context_view old)) c.as_str-in-NameOf.ensures
    ∙ ap (λ part. frame_at (part_location (context_view old).instance_location (part_view part)) (context_view old)) (sym c.in-NameOf.is)

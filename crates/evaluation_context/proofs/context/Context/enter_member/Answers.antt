use Rattle.std.proofs.Common.{◌∷◌, [], arith, refl, ap}
use Rattle.locations.specs.Steps.{token}
use Rattle.evaluation_context.specs.Frames.{context_view, keyword_frame}
use Rattle.evaluation_context.specs.Runnings.{steps_between}
use Rattle.evaluation_context.specs.RunningViews.{path_ends, path_pointer}
use Rattle.evaluation_context.proofs.FrameLaws.{beyond_further, context_within, path_fits, same_frames, same_locations, stands_at_keyword}
use Rattle.evaluation_context.proofs.RunningLaws.{ends_within}
use Rattle.evaluation_context.proofs.context.Context.enter_member.Goals as goal

pub overflow_add-self : goal.overflow_add-self
overflow_add-self c = omega (arith, c.args.self.now.within, path_fits c.args.self.now.running)

pub returns-clause-entered : goal.returns-clause-entered
unfolding context_view keyword_frame
returns-clause-entered c =
    let old = c.args.self.now.running in
    let e = c.in_ok-lengthen.ensures in
    same_frames e.path refl refl (same_locations e.instance_location refl) refl e.running
    (ap (steps_between 0) e.ends)
    (beyond_further (path_pointer old) _ (token c.args.step ∷ []) (path_ends old) _ e.path e.ends (ends_within old))

pub returns-clause-there : goal.returns-clause-there
returns-clause-there c = stands_at_keyword (token c.args.step) (context_view c.args.self.now) _ (context_within c.args.self.now) (returns-clause-entered c)

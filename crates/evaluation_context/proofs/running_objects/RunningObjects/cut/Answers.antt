use Rattle.std.proofs.Common.{◌≡◌, max, take, refl, arith, ap, ◌∙◌}
use Rattle.basic_output.specs.PointerViews.{pointer_view}
use Rattle.evaluation_context.specs.RunningViews.{instance_pointer, path_ends, path_pointer, running_objects}
use Rattle.evaluation_context.proofs.RunningLaws.{cut_laid, cut_views, last_least}
use Rattle.evaluation_context.proofs.EndLaws.{ends_stay}
use Rattle.evaluation_context.proofs.running_objects.RunningObjects.cut.Goals as goal

pub invariant_of-self : goal.invariant_of-self
unfolding path_ends
invariant_of-self c =
    let old = c.args.self.now in
    let rs = old.entries.items in
    record {
      laid = cut_laid (λ r. r.reach) rs (pointer_view old.path) _ _ c.truncate.ensures (omega (arith, c.needed-reach.ensures.reach)) old.laid;
      nested = cut_laid (λ r. r.depth) rs (pointer_view old.instance_location) _ _ c.truncate-2.ensures (omega (arith, c.needed-reach.ensures.depth)) old.nested;
      told = ends_stay rs _ _ (cut_views rs (pointer_view old.path) _ (pointer_view old.instance_location) _ _ _ c.truncate.ensures c.truncate-2.ensures (omega (arith, c.needed-reach.ensures.reach)) (omega (arith, c.needed-reach.ensures.depth)) old.laid old.nested) old.told;
    }

pub returns-clause-running : goal.returns-clause-running
unfolding running_objects path_ends
returns-clause-running c =
    let old = c.args.self.now in
    cut_views old.entries.items (pointer_view old.path) _ (pointer_view old.instance_location) _ _ _ c.truncate.ensures c.truncate-2.ensures (omega (arith, c.needed-reach.ensures.reach)) (omega (arith, c.needed-reach.ensures.depth)) old.laid old.nested

pub returns-clause-ends : goal.returns-clause-ends
unfolding path_ends
returns-clause-ends c = refl

pub returns-clause-path : goal.returns-clause-path
unfolding path_pointer
returns-clause-path c =
    c.truncate.ensures ∙ ap (λ n. take n (pointer_view c.args.self.now.path)) (c.max.ensures ∙ ap (max c.args.steps) c.needed-reach.ensures.reach)

pub returns-clause-instance_location : goal.returns-clause-instance_location
unfolding instance_pointer running_objects
returns-clause-instance_location c = λ above.
    let old = c.args.self.now in
    let least = last_least (pointer_view old.path) (pointer_view old.instance_location) 0 c.args.instance_steps old.entries.items (omega arith) old.nested above in
    let same : c.max-2.result ≡ c.args.instance_steps = omega (arith, least, c.needed-reach.ensures.depth) in
    c.truncate-2.ensures ∙ ap (λ n. take n (pointer_view old.instance_location)) same

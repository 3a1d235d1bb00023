use Rattle.std.proofs.Common.{◌∷◌, [], is_ok, refl}
use Rattle.locations.specs.Steps.{token}
use Rattle.basic_output.specs.PointerViews.{pointer_view}
use Rattle.evaluation_context.specs.RunningViews.{instance_pointer, path_ends, path_pointer, running_objects}
use Rattle.evaluation_context.proofs.RunningLaws.{deepened_either, deepened_views, longer_laid, on_push}
use Rattle.evaluation_context.proofs.EndLaws.{ends_stay}
use Rattle.evaluation_context.proofs.running_objects.RunningObjects.deepen.Goals as goal

pub invariant_of-self : goal.invariant_of-self
invariant_of-self c =
    let old = c.args.self.now in
    record {
      laid = old.laid;
      nested = longer_laid (λ r. r.depth) (is_ok c.push.result) old.entries.items (pointer_view old.instance_location) (pointer_view c.push.new.self) (token c.args.step) c.push.ensures old.nested;
      told = ends_stay old.entries.items _ _ (deepened_either (is_ok c.push.result) old.entries.items (pointer_view old.path) (pointer_view old.instance_location) (pointer_view c.push.new.self) (token c.args.step) c.push.ensures old.laid old.nested) old.told;
    }

pub returns-clause-running : goal.returns-clause-running
unfolding running_objects
returns-clause-running c =
    let old = c.args.self.now in
    on_push c.push.result (pointer_view c.push.new.self) _ _ c.push.ensures
    (λ is. deepened_views old.entries.items (pointer_view old.path) (pointer_view old.instance_location) (pointer_view c.push.new.self) (token c.args.step ∷ []) is old.laid old.nested)

pub returns-clause-path : goal.returns-clause-path
unfolding path_pointer
returns-clause-path c = refl

pub returns-clause-ends : goal.returns-clause-ends
unfolding path_ends
returns-clause-ends c = refl

pub returns-clause-instance_location : goal.returns-clause-instance_location
unfolding instance_pointer
returns-clause-instance_location c = on_push c.push.result (pointer_view c.push.new.self) _ _ c.push.ensures (λ is. is)

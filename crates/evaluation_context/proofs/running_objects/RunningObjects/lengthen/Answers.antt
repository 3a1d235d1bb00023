use Rattle.std.proofs.Common.{is_ok, refl}
use Rattle.locations.specs.Steps.{token}
use Rattle.basic_output.specs.PointerViews.{pointer_view}
use Rattle.evaluation_context.specs.RunningViews.{instance_pointer, path_ends, path_pointer, running_objects}
use Rattle.evaluation_context.proofs.RunningLaws.{lengthened_views, longer_laid}
use Rattle.evaluation_context.proofs.EndLaws.{ends_stay}
use Rattle.evaluation_context.proofs.running_objects.RunningObjects.lengthen.Goals as goal

pub invariant_of-self : goal.invariant_of-self
invariant_of-self c =
    let old = c.args.self.now in
    record {
      laid = longer_laid (λ r. r.reach) (is_ok c.push.result) old.entries.items (pointer_view old.path) (pointer_view c.push.new.self) (token c.args.step) c.push.ensures old.laid;
      nested = old.nested;
      told = ends_stay old.entries.items _ _ (lengthened_views (is_ok c.push.result) old.entries.items (pointer_view old.path) (pointer_view old.instance_location) (pointer_view c.push.new.self) (token c.args.step) c.push.ensures old.laid old.nested) old.told;
    }

pub returns-clause-running : goal.returns-clause-running
unfolding running_objects
returns-clause-running c =
    let old = c.args.self.now in
    lengthened_views (is_ok c.push.result) old.entries.items (pointer_view old.path) (pointer_view old.instance_location) (pointer_view c.push.new.self) (token c.args.step) c.push.ensures old.laid old.nested

pub returns-clause-path : goal.returns-clause-path
unfolding path_pointer
returns-clause-path c = c.push.ensures

pub returns-clause-ends : goal.returns-clause-ends
unfolding path_ends
returns-clause-ends c = refl

pub returns-clause-instance_location : goal.returns-clause-instance_location
unfolding instance_pointer
returns-clause-instance_location c = refl

use Rattle.std.proofs.Common.{refl}
use Rattle.basic_output.specs.PointerViews.{pointer_view}
use Rattle.evaluation_context.specs.RunningViews.{instance_pointer, path_ends, path_pointer, running_objects}
use Rattle.evaluation_context.specs.Runnings.{running_view}
use Rattle.evaluation_context.specs.declared.running.Running.{Running}
use Rattle.evaluation_context.proofs.RunningLaws.{popped, popped_laid}
use Rattle.evaluation_context.proofs.EndLaws.{popped_ends}
use Rattle.evaluation_context.proofs.running_objects.RunningObjects.pop.Goals as goal

pub invariant_of-self : goal.invariant_of-self
invariant_of-self c =
    let old = c.args.self.now in
    record {
      laid = popped_laid (λ r. r.reach) old.entries.items c.pop.new.self.items _ _ c.pop.ensures.rest old.laid;
      nested = popped_laid (λ r. r.depth) old.entries.items c.pop.new.self.items _ _ c.pop.ensures.rest old.nested;
      told = popped_ends (running_view (pointer_view old.path) (pointer_view old.instance_location)) old.entries.items c.pop.new.self.items _ c.pop.ensures.rest old.told;
    }

pub returns-clause-running : goal.returns-clause-running
unfolding running_objects
returns-clause-running c =
    let old = c.args.self.now in
    popped (running_view (pointer_view old.path) (pointer_view old.instance_location)) old.entries.items c.pop.new.self.items _ old.entries.ok.0 c.pop.ensures.rest

pub returns-clause-ends : goal.returns-clause-ends
unfolding path_ends
returns-clause-ends c =
    let old = c.args.self.now in
    popped (λ (r : Running). r.reach) old.entries.items c.pop.new.self.items _ old.entries.ok.0 c.pop.ensures.rest

pub returns-clause-path : goal.returns-clause-path
unfolding path_pointer
returns-clause-path c = refl

pub returns-clause-instance_location : goal.returns-clause-instance_location
unfolding instance_pointer
returns-clause-instance_location c = refl

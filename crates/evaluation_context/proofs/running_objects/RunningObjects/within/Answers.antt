use Rattle.std.proofs.Common.{map, ap}
use Rattle.basic_output.specs.PointerViews.{pointer_view}
use Rattle.evaluation_context.specs.RunningViews.{instance_pointer, path_ends, path_pointer, running_objects}
use Rattle.evaluation_context.specs.Runnings.{running_view}
use Rattle.evaluation_context.specs.declared.running.Running.{Running}
use Rattle.evaluation_context.proofs.running_objects.RunningObjects.within.Goals as goal

pub returns-clause-running : goal.returns-clause-running
unfolding running_objects
returns-clause-running c = ap (map (running_view (pointer_view c.in_ok-within.field-0) (pointer_view c.in_ok-within-2.field-0))) c.new.ensures.items

pub returns-clause-ends : goal.returns-clause-ends
unfolding path_ends
returns-clause-ends c = ap (map (λ (r : Running). r.reach)) c.new.ensures.items

pub returns-clause-path : goal.returns-clause-path
unfolding path_pointer
returns-clause-path c = c.in_ok-within.ensures

pub returns-clause-instance_location : goal.returns-clause-instance_location
unfolding instance_pointer
returns-clause-instance_location c = c.in_ok-within-2.ensures

use Rattle.std.proofs.Common.{map, refl, ap, ap₂}
use Rattle.basic_output.specs.PointerViews.{pointer_view}
use Rattle.evaluation_context.specs.Runnings.{running_view}
use Rattle.evaluation_context.specs.RunningViews.{instance_pointer, path_ends, path_pointer, running_objects}
use Rattle.evaluation_context.proofs.running_objects.RunningObjects.write.Goals as goal

pub returns-in_err-write_onward-clause-running : goal.returns-in_err-write_onward-clause-running
unfolding running_objects
returns-in_err-write_onward-clause-running c =
    let old = c.args.self.now in
    ap (λ path. map (running_view path (pointer_view old.instance_location)) old.entries.items) c.write_onward.ensures.same

pub returns-in_err-write_onward-clause-ends : goal.returns-in_err-write_onward-clause-ends
unfolding path_ends
returns-in_err-write_onward-clause-ends c = refl

pub returns-in_err-write_onward-clause-path : goal.returns-in_err-write_onward-clause-path
unfolding path_pointer
returns-in_err-write_onward-clause-path c = c.write_onward.ensures.same

pub returns-in_err-write_onward-clause-instance_location : goal.returns-in_err-write_onward-clause-instance_location
unfolding instance_pointer
returns-in_err-write_onward-clause-instance_location c = refl

pub returns-clause-running : goal.returns-clause-running
unfolding running_objects
returns-clause-running c = ap₂ (λ path place. map (running_view path place) c.args.self.now.entries.items) c.write_onward.ensures.same c.write.ensures.same

pub returns-clause-ends : goal.returns-clause-ends
unfolding path_ends
returns-clause-ends c = refl

pub returns-clause-path : goal.returns-clause-path
unfolding path_pointer
returns-clause-path c = c.write_onward.ensures.same

pub returns-clause-instance_location : goal.returns-clause-instance_location
unfolding instance_pointer
returns-clause-instance_location c = c.write.ensures.same

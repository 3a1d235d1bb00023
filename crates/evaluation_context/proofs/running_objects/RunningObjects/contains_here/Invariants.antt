use Rattle.std.proofs.Common.{◌≡◌, ◌≤◌, false, map, drop, length, option_map}
use Rattle.std.specs.List.{list_any}
use Rattle.basic_output.specs.PointerViews.{pointer_view}
use Rattle.evaluation_context.specs.Runnings.{is_running_as, last_steps, onward_identity, running_view}
use Rattle.evaluation_context.proofs.running_objects.RunningObjects.contains_here.Given as goal

abbrev pub invariant-loop-left : goal.invariant-loop-left
invariant-loop-left l =
    record {
      within : l.left ≤ length l.self.entries.items;
      none : list_any (is_running_as (onward_identity l.origin (last_steps l.onward (pointer_view l.self.path))) (record { pointer = pointer_view l.self.instance_location; name = option_map (λ n. n.now) l.name }))
          (map (running_view (pointer_view l.self.path) (pointer_view l.self.instance_location)) (drop l.left l.self.entries.items)) ≡ false;
    }

abbrev pub decreases-loop-left : goal.decreases-loop-left
decreases-loop-left l = l.left

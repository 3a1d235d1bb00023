use Rattle.std.proofs.Common.{◌≡◌, ◌+◌, ◌-◌, false, true, map, drop, option_map, arith, sym, ap, ◌∙◌}
use Rattle.std.specs.List.{list_any}
use Rattle.basic_output.specs.PointerViews.{pointer_view}
use Rattle.evaluation_context.specs.Ends.{identity_end, tells_end}
use Rattle.evaluation_context.specs.Runnings.{is_running_as, last_steps, onward_identity, running_identity, running_view}
use Rattle.evaluation_context.specs.RunningViews.{instance_pointer, path_pointer, running_objects}
use Rattle.evaluation_context.proofs.EndLaws.{end_read}
use Rattle.evaluation_context.proofs.RunningLaws.{reach_read, found_here, none_left}
use Rattle.evaluation_context.proofs.running_objects.RunningObjects.contains_here.Goals as goal

pub returns-then-entry-depth : goal.returns-then-entry-depth
unfolding running_objects instance_pointer path_pointer
returns-then-entry-depth c =
    let o = c.args.self.now in
    let i = c.loop-left.left - 1 in
    let next : c.loop-left.left ≡ i + 1 = omega arith in
    let f = is_running_as (onward_identity c.args.origin.now (last_steps c.args.onward (pointer_view o.path))) (record { pointer = pointer_view o.instance_location; name = option_map (λ n. n.now) c.args.name }) in
    let later : list_any f (map (running_view (pointer_view o.path) (pointer_view o.instance_location)) (drop (i + 1) o.entries.items)) ≡ false =
    ap (λ n. list_any f (map (running_view (pointer_view o.path) (pointer_view o.instance_location)) (drop n o.entries.items))) (sym next) ∙ c.loop-left.invariant.none in
    none_left (pointer_view o.path) (pointer_view o.instance_location) (onward_identity c.args.origin.now (last_steps c.args.onward (pointer_view o.path))) (option_map (λ n. n.now) c.args.name) o.entries.items i c.index-entry.result.now (omega arith) c.index-entry.ensures (omega arith) o.nested later

pub is_same-requires : goal.is_same-requires
unfolding path_pointer
is_same-requires c =
    let o = c.args.self.now in
    let entry = c.index-entry.result.now in
    let told : tells_end entry.end (identity_end (running_identity (pointer_view o.path) entry)) ≡ true =
    end_read (running_view (pointer_view o.path) (pointer_view o.instance_location)) o.entries.items (c.loop-left.left - 1) entry (omega arith) c.index-entry.ensures o.told in
    record {
      reach = reach_read o.entries.items (pointer_view o.path) c.steps.result.now (c.loop-left.left - 1) entry c.steps.ensures (omega arith) c.index-entry.ensures o.laid;
      told = ap (λ p. tells_end entry.end (identity_end (running_identity p entry))) c.steps.ensures ∙ told;
      own = ap (λ p. tells_end c.args.end (identity_end (onward_identity c.args.origin.now (last_steps c.args.onward p)))) c.steps.ensures ∙ c.requires;
    }

pub returns-then-is_same : goal.returns-then-is_same
unfolding running_objects instance_pointer path_pointer
returns-then-is_same c =
    let o = c.args.self.now in
    found_here o.entries.items (pointer_view o.path) _ (pointer_view o.instance_location) (onward_identity c.args.origin.now (last_steps c.args.onward (pointer_view o.path))) _ (option_map (λ n. n.now) c.args.name) (c.loop-left.left - 1) c.index-entry.result.now c.is_same.result c.steps.ensures (ap (λ p. onward_identity c.args.origin.now (last_steps c.args.onward p)) c.steps.ensures) (omega arith) c.index-entry.ensures (omega arith) c.is_same.ensures c.if-is_same.true

pub returns : goal.returns
unfolding running_objects instance_pointer path_pointer
returns c =
    let o = c.args.self.now in
    let f = is_running_as (onward_identity c.args.origin.now (last_steps c.args.onward (pointer_view o.path))) (record { pointer = pointer_view o.instance_location; name = option_map (λ n. n.now) c.args.name }) in
    let none : c.loop-left.left ≡ 0 = omega arith in
    sym (ap (λ n. list_any f (map (running_view (pointer_view o.path) (pointer_view o.instance_location)) (drop n o.entries.items))) (sym none) ∙ c.loop-left.invariant.none)

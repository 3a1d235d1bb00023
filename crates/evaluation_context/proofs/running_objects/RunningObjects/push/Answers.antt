use Rattle.std.proofs.Common.{◌∷◌, ◌++◌, [], is_ok, length, map, refl, ap, ◌∙◌}
use Rattle.std.proofs.lemmas.List.{map_push}
use Rattle.basic_output.specs.PointerViews.{pointer_view}
use Rattle.evaluation_context.specs.RunningViews.{instance_pointer, path_ends, path_pointer, running_objects}
use Rattle.evaluation_context.specs.Runnings.{running_view}
use Rattle.evaluation_context.specs.declared.running.Running.{Running}
use Rattle.evaluation_context.proofs.EndLaws.{pushed_end, pushed_ends}
use Rattle.evaluation_context.proofs.RunningLaws.{pushed_laid, pushed_views}
use Rattle.evaluation_context.proofs.running_objects.RunningObjects.push.Goals as goal

pub invariant_of-self : goal.invariant_of-self
unfolding path_pointer
invariant_of-self c =
    let old = c.args.self.now in
    record {
      laid = pushed_laid (λ r. r.reach) (is_ok c.push.result) old.entries.items c.push.new.self.items _ (length (pointer_view old.path)) c.push.ensures.items c.len.ensures old.laid;
      nested = pushed_laid (λ r. r.depth) (is_ok c.push.result) old.entries.items c.push.new.self.items _ (length (pointer_view old.instance_location)) c.push.ensures.items c.len-2.ensures old.nested;
      told = pushed_ends (running_view (pointer_view old.path) (pointer_view old.instance_location)) (is_ok c.push.result) old.entries.items c.push.new.self.items _ c.push.ensures.items old.told (pushed_end c.end_of-end.result c.args.origin.value _ c.len.result c.args.onward (pointer_view old.path) _ c.deref.ensures c.len.ensures c.last_steps.ensures c.end_of-end.ensures);
    }

pub returns-clause-running : goal.returns-clause-running
unfolding running_objects instance_pointer path_pointer
returns-clause-running c =
    let old = c.args.self.now in
    pushed_views old.entries.items c.push.new.self.items (pointer_view old.path) (pointer_view old.instance_location) _ c.in_ok-push.ensures.items c.len.ensures c.len-2.ensures

pub returns-clause-ends : goal.returns-clause-ends
unfolding path_ends path_pointer
returns-clause-ends c =
    let old = c.args.self.now in
    ap (λ rs. map (λ (r : Running). r.reach) rs) c.in_ok-push.ensures.items ∙ map_push (λ (r : Running). r.reach) old.entries.items _ ∙ ap (λ n. path_ends old ++ n ∷ []) c.len.ensures

pub returns-in_err-push-clause-path : goal.returns-in_err-push-clause-path
unfolding path_pointer
returns-in_err-push-clause-path c = refl

pub returns-in_err-push-clause-instance_location : goal.returns-in_err-push-clause-instance_location
unfolding instance_pointer
returns-in_err-push-clause-instance_location c = refl

pub returns-clause-path : goal.returns-clause-path
unfolding path_pointer
returns-clause-path c = refl

pub returns-clause-instance_location : goal.returns-clause-instance_location
unfolding instance_pointer
returns-clause-instance_location c = refl

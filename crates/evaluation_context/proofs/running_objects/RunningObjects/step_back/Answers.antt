use Rattle.std.proofs.Common.{◌-◌, length, max, refl, sym, arith}
use Rattle.std.proofs.lemmas.List.{take_all}
use Rattle.basic_output.specs.PointerViews.{pointer_view}
use Rattle.evaluation_context.specs.RunningViews.{instance_pointer, path_ends, path_pointer, running_objects}
use Rattle.evaluation_context.specs.Runnings.{last_end}
use Rattle.evaluation_context.proofs.RunningLaws.{cut_laid, cut_path, shortened_views}
use Rattle.evaluation_context.proofs.EndLaws.{ends_stay}
use Rattle.evaluation_context.proofs.running_objects.RunningObjects.step_back.Goals as goal

pub invariant_of-self : goal.invariant_of-self
unfolding path_ends
invariant_of-self c =
    let old = c.args.self.now in
    let shorter = cut_path (pointer_view old.path) (pointer_view c.truncate.new.self) (last_end 0 (path_ends old)) c.len-len.result c.truncate.ensures c.len-len.ensures (omega (arith, c.needed.ensures.reach, c.len-len.ensures, c.if-needed-len.true)) in
    record {
      laid = cut_laid (λ r. r.reach) old.entries.items (pointer_view old.path) (pointer_view c.truncate.new.self) _ shorter (omega arith) old.laid;
      nested = old.nested;
      told = ends_stay old.entries.items _ _ (shortened_views old.entries.items (pointer_view old.path) (pointer_view c.truncate.new.self) (pointer_view old.instance_location) _ shorter (omega arith) old.laid old.nested) old.told;
    }

pub returns-then-needed-len-clause-running : goal.returns-then-needed-len-clause-running
unfolding running_objects path_ends
returns-then-needed-len-clause-running c =
    let old = c.args.self.now in
    let shorter = cut_path (pointer_view old.path) (pointer_view c.truncate.new.self) (last_end 0 (path_ends old)) c.len-len.result c.truncate.ensures c.len-len.ensures (omega (arith, c.needed.ensures.reach, c.len-len.ensures, c.if-needed-len.true)) in
    shortened_views old.entries.items (pointer_view old.path) (pointer_view c.truncate.new.self) (pointer_view old.instance_location) _ shorter (omega arith) old.laid old.nested

pub returns-then-needed-len-clause-ends : goal.returns-then-needed-len-clause-ends
unfolding path_ends
returns-then-needed-len-clause-ends c = refl

pub returns-then-needed-len-clause-path : goal.returns-then-needed-len-clause-path
unfolding path_pointer
returns-then-needed-len-clause-path c =
    let old = c.args.self.now in
    cut_path (pointer_view old.path) (pointer_view c.truncate.new.self) (last_end 0 (path_ends old)) c.len-len.result c.truncate.ensures c.len-len.ensures (omega (arith, c.needed.ensures.reach, c.len-len.ensures, c.if-needed-len.true))

pub returns-then-needed-len-clause-instance_location : goal.returns-then-needed-len-clause-instance_location
unfolding instance_pointer
returns-then-needed-len-clause-instance_location c = refl

pub returns-else-needed-len-clause-path : goal.returns-else-needed-len-clause-path
unfolding path_pointer
returns-else-needed-len-clause-path c =
    let path = pointer_view c.args.self.now.path in
    let last = last_end 0 (path_ends c.args.self.now) in
    sym (take_all (max (length path - 1) last) path (omega (arith, c.needed.ensures.reach, c.len-len.ensures, c.if-needed-len.false)))

use Rattle.std.proofs.Common.{◌≡◌, ◌-◌, Some, length, map, arith, sym, ap, ◌∙◌}
use Rattle.std.proofs.lemmas.Option.{slice_get_within}
use Rattle.std.specs.List.{slice_get}
use Rattle.evaluation_context.specs.RunningViews.{path_ends}
use Rattle.evaluation_context.specs.Runnings.{last_end}
use Rattle.evaluation_context.specs.declared.running.Running.{Running}
use Rattle.evaluation_context.proofs.RunningLaws.{last_read, no_last}
use Rattle.evaluation_context.proofs.running_objects.RunningObjects.needed.Goals as goal

-- the entry is the last one
last : (c : goal.In-Some) → slice_get c.args.self.now.entries.items (length c.args.self.now.entries.items - 1) ≡ Some c.in-Some.entry.now
last c = ap (λ rs. slice_get rs (length rs - 1)) (sym c.deref.ensures.value) ∙ sym c.in-Some.ensures.value

pub returns-in-None-clause-reach : goal.returns-in-None-clause-reach
unfolding path_ends
returns-in-None-clause-reach c = ap (last_end 0) (ap (map (λ (r : Running). r.reach)) (sym (no_last c.args.self.now.entries.items (c.in-None.ensures.value ∙ ap (λ rs. slice_get rs (length rs - 1)) c.deref.ensures.value))))

pub returns-in-Some-clause-reach : goal.returns-in-Some-clause-reach
unfolding path_ends
returns-in-Some-clause-reach c =
    let es = c.args.self.now.entries.items in
    last_read (λ r. r.reach) es c.in-Some.entry.now (omega (arith, slice_get_within es _ c.in-Some.entry.now (last c))) (last c)

pub returns-in-Some-clause-depth : goal.returns-in-Some-clause-depth
returns-in-Some-clause-depth c =
    let es = c.args.self.now.entries.items in
    last_read (λ r. r.depth) es c.in-Some.entry.now (omega (arith, slice_get_within es _ c.in-Some.entry.now (last c))) (last c)

use Rattle.std.proofs.Common.{◌==◌, ap, sym, ◌∙◌}
use Rattle.basic_output.specs.PointerViews.{pointer_view}
use Rattle.evaluation_context.specs.RunningViews.{instance_pointer, running_objects}
use Rattle.evaluation_context.proofs.RunningLaws.{none_here}
use Rattle.evaluation_context.proofs.running_objects.RunningObjects.may_have_one_here.Goals as goal

pub returns : goal.returns
unfolding running_objects instance_pointer
returns c = λ identity name apart.
    let o = c.args.self.now in
    none_here (pointer_view o.path) (pointer_view o.instance_location) identity name o.entries.items c.len.result
    (ap (λ n. n == c.len.result) (sym c.needed.ensures.depth) ∙ apart) c.len.ensures o.nested

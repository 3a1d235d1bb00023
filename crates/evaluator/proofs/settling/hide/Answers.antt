use Rattle.std.proofs.Common.{[]}
use Rattle.evaluator.proofs.settling.hide.Goals as goal

pub returns-in-Not : goal.returns-in-Not
returns-in-Not c older more m e = rw c.in-Not.is (c.cut_evaluated.ensures older (record more { annotations = [] }) m (c.cut_annotations.ensures older more m e))

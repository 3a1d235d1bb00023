use Rattle.applicators.proofs.Annotated.{last-at, last-none}
use Rattle.applicators.proofs.annotating.last_index.Goals as goal

pub returns-then-count-eq0 : goal.returns-then-count-eq0
returns-then-count-eq0 c = last-none c.args.indexes.now c.if-count-eq0.true

pub returns-else-count-eq0 : goal.returns-else-count-eq0
returns-else-count-eq0 c = last-at c.args.indexes.now

use Rattle.sockets.proofs.Queues.{none_distinct}
use Rattle.sockets.proofs.table.Table.new.Goals as goal

pub invariant_of-result-clause-distinct : goal.invariant_of-result-clause-distinct
invariant_of-result-clause-distinct c = rw c.new-2.ensures.items none_distinct

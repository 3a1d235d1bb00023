use Rattle.sockets.specs.Socket.{as_told}
use Rattle.sockets.proofs.Queues.{pop_distinct, pop_stand, stay_free}
use Rattle.sockets.proofs.table.Table.pop.Goals as goal

pub invariant_of-self-2-clause-distinct : goal.invariant_of-self-2-clause-distinct
invariant_of-self-2-clause-distinct c =
    let t = c.args.self.now in
    let was = c.in_ok-id.ensures.items in
    pop_distinct c.in_ok-id.id c.pop_front.new.self.items (rw was at t.distinct)

pub invariant_of-self-2-clause-queued : goal.invariant_of-self-2-clause-queued
invariant_of-self-2-clause-queued c k =
    let t = c.args.self.now in
    let was = c.in_ok-id.ensures.items in
    pop_stand t.sockets c.unmark.new.sockets c.in_ok-id.id c.pop_front.new.self.items (rw was at t.distinct) (rw was at t.queued) c.unmark.ensures.marked c.unmark.ensures.others k

pub invariant_of-self-2-clause-fresh : goal.invariant_of-self-2-clause-fresh
invariant_of-self-2-clause-fresh c k high =
    let t = c.args.self.now in
    stay_free t.sockets c.unmark.new.sockets c.in_ok-id.id k as_told (t.fresh k high) c.unmark.ensures.marked c.unmark.ensures.others

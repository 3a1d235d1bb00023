use Rattle.std.proofs.Common.{arith, sym}
use Rattle.sockets.specs.Socket.{as_queued}
use Rattle.sockets.proofs.Queues.{has_room, push_distinct, push_stand, stay_free}
use Rattle.sockets.proofs.table.Table.queue.Goals as goal

pub push_back_reserved-requires : goal.push_back_reserved-requires
push_back_reserved-requires c =
    let t = c.args.self.now in
    let free = sym c.if-mark.ensures.result in
    omega (arith, has_room t.sockets t.queue.items c.args.id t.distinct t.queued free, t.room, t.queue.ok.0)

pub invariant_of-self-clause-distinct : goal.invariant_of-self-clause-distinct
invariant_of-self-clause-distinct c =
    let t = c.args.self.now in
    let free = sym c.if-mark.ensures.result in
    rw c.push_back_reserved.ensures.items (push_distinct t.sockets t.queue.items c.args.id t.distinct t.queued free)

pub invariant_of-self-clause-queued : goal.invariant_of-self-clause-queued
invariant_of-self-clause-queued c k =
    let t = c.args.self.now in
    let free = sym c.if-mark.ensures.result in
    rw c.push_back_reserved.ensures.items (push_stand t.sockets c.mark.new.sockets t.queue.items c.args.id t.queued free c.mark.ensures.marked c.mark.ensures.others k)

pub invariant_of-self-clause-fresh : goal.invariant_of-self-clause-fresh
invariant_of-self-clause-fresh c k high =
    let t = c.args.self.now in
    stay_free t.sockets c.mark.new.sockets c.args.id k as_queued (t.fresh k high) c.mark.ensures.marked c.mark.ensures.others

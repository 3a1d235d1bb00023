use Rattle.std.proofs.Common.{◌∙◌, ap, option_map}
use Rattle.sockets.specs.Socket.{as_queued}
use Rattle.sockets.proofs.Taken.{queued_keeps, queued_where_undrained}
use Rattle.sockets.proofs.table.Table.await_more.Goals as goal

pub returns-then-not-waits_where_drained-clause-next : goal.returns-then-not-waits_where_drained-clause-next
returns-then-not-waits_where_drained-clause-next c =
    queued_where_undrained _ _ (c.queue.ensures.queued ∙ ap (λ o. option_map as_queued o) (c.waits_where_drained.ensures.same c.if-not-waits_where_drained.true))

pub returns-then-not-waits_where_drained-clause-clients : goal.returns-then-not-waits_where_drained-clause-clients
returns-then-not-waits_where_drained-clause-clients c k =
    queued_keeps c.waits_where_drained.new.self c.queue.new.self c.args.id c.queue.ensures.others c.queue.ensures.queued k ∙ c.waits_where_drained.ensures.clients k

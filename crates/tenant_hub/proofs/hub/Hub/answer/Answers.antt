use Rattle.std.proofs.Common.{sym, subst}
use Rattle.definition_laws.specs.Laws.{IsRefused}
use Rattle.requests.specs.Views.{request_view, reply_view}
use Rattle.tenant_hub.proofs.Positions.{answered_again}
use Rattle.tenant_hub.proofs.hub.Hub.answer.Goals as goal

pub returns-then-lacks_room : goal.returns-then-lacks_room
returns-then-lacks_room c =
    let room = c.lacks_room.ensures.0 c.if-lacks_room.true in
    answered_again _ _ _ _ c.args.key.now (request_view c.args.request.now) (reply_view c.answer_once-reply.result) _
    (subst (λ r. IsRefused (reply_view r)) (sym room) tt) c.answer_once-reply.ensures c.give_back.ensures c.answer_once.ensures

use Rattle.std.proofs.Common.{sym, subst}
use Rattle.definition_laws.specs.Laws.{IsRefused}
use Rattle.requests.specs.Views.{reply_view}
use Rattle.tenant_hub.proofs.PutBack.{put_back_again}
use Rattle.tenant_hub.proofs.restoring.restore_into.Goals as goal

pub returns-then-lacks_room : goal.returns-then-lacks_room
returns-then-lacks_room c =
    let room = c.lacks_room.ensures.0 c.if-lacks_room.true in
    put_back_again _ _ _ c.args.base.now c.args.text.now (reply_view c.restore_once-reply.result) _ (subst (λ r. IsRefused (reply_view r)) (sym room) tt)
    c.restore_once-reply.ensures c.restore_once.ensures

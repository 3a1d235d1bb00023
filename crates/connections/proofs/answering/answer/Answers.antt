use Rattle.std.proofs.Common.{subst, sym}
use Rattle.requests.specs.Views.{reply_view}
use Rattle.connections.specs.Progress.{AnswersAt}
use Rattle.connections.proofs.Joined.{told_if_ok, may_answer}
use Rattle.connections.proofs.answering.answer.Goals as goal

pub returns-in-Ok-clause-ok : goal.returns-in-Ok-clause-ok
returns-in-Ok-clause-ok g c =
    let bytes = c.args.bytes.now in
    let heading = c.args.heading in
    let reply = reply_view c.in-Ok.reply in
    let s = g.H.Handler.state c.args.handler.now in
    let t = g.H.Handler.state c.reuse.new.self in
    told_if_ok g.H.Handler.answers bytes heading s t reply _ _ c.tell-told.result
    (subst (λ t. AnswersAt g.H.Handler.answers bytes heading s reply t) (sym c.reuse.ensures.state) c.in-Ok.ensures.ok) c.tell-told.ensures.ok

pub returns-in-Ok-clause-some : goal.returns-in-Ok-clause-some
returns-in-Ok-clause-some g c =
    let bytes = c.args.bytes.now in
    let heading = c.args.heading in
    let reply = reply_view c.in-Ok.reply in
    let s = g.H.Handler.state c.args.handler.now in
    let t = g.H.Handler.state c.reuse.new.self in
    may_answer g.H.Handler.answers bytes heading s t reply c.tell-told.result
    (subst (λ t. AnswersAt g.H.Handler.answers bytes heading s reply t) (sym c.reuse.ensures.state) c.in-Ok.ensures.ok)

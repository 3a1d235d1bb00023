use Rattle.std.proofs.Common.{ap, ◌∙◌}
use Rattle.connections.specs.Connected.{connection_at}
use Rattle.serving.proofs.Ended.{opened_none, ended_none, freed, not_opened, served_cut, words_lack_room, words_of, served_words}
use Rattle.serving.proofs.served.serve.Goals as goal

pub returns-in-Err-clause-served : goal.returns-in-Err-clause-served
returns-in-Err-clause-served g c =
    not_opened g.H.Handler.answers _ _ _ _ _ _ _ c.in-Err.ensures.opened (ap g.H.Handler.state c.in-Err.ensures.handler)

pub returns-in-Err-exchanged-clause-served : goal.returns-in-Err-exchanged-clause-served
returns-in-Err-exchanged-clause-served g c =
    served_cut g.H.Handler.answers _ _ _ _ _ _ _ _ _ _ _ _ c.in-Ok.ensures.opened (ap g.H.Handler.state c.in-Ok.ensures.handler) (ap g.H.Handler.state c.end-last.ensures.handler) c.in-Err-exchanged.ensures.exchanged

pub returns-in-Err-exchanged-clause-free : goal.returns-in-Err-exchanged-clause-free
returns-in-Err-exchanged-clause-free g c =
    freed c.args.id (connection_at c.args.sessions.now) (connection_at c.open.new.self) (connection_at c.exchange-exchanged.new.sessions) (connection_at c.end-last.new.self)
    (opened_none _ _ _ c.in-Ok.ensures.opened) (ended_none _ _ _ c.end-last.ensures.ended) c.in-Ok.ensures.others c.in-Err-exchanged.ensures.others c.end-last.ensures.others

pub returns-in-Err-last-clause-served : goal.returns-in-Err-last-clause-served
returns-in-Err-last-clause-served g c =
    let x = c.in-Ok-exchanged.ensures.exchanged in
    served_cut g.H.Handler.answers _ _ _ _ _ _ _ _ _ _ _ _ c.in-Ok.ensures.opened (ap g.H.Handler.state c.in-Ok.ensures.handler) (ap g.H.Handler.state c.in-Err-last.ensures.handler)
    (words_lack_room g.H.Handler.answers _ _ x.0 x.1 _ _ _ _ _ _ _ x.2 x.3 x.4 c.in-Err-last.ensures.ended)

pub returns-in-Ok-last-clause-served : goal.returns-in-Ok-last-clause-served
returns-in-Ok-last-clause-served g c =
    let x = c.in-Ok-exchanged.ensures.exchanged in
    served_words g.H.Handler.answers _ _ _ x.0 x.1 _ _ _ _ _ _ _ _ _ _ _ c.in-Ok.ensures.opened (ap g.H.Handler.state c.in-Ok.ensures.handler) (ap g.H.Handler.state c.in-Ok-last.ensures.handler) x.3 x.4
    (c.deref.ensures.value ∙ words_of _ _ x.0 c.in-Ok-last.words x.2 c.in-Ok-last.ensures.ended) c.tell_all.ensures

use Rattle.std.proofs.Common.{ap, ◌∙◌}
use Rattle.connections.specs.Connected.{connection_at, handler_of}
use Rattle.serving.specs.Streams.{transfers_of}
use Rattle.serving.proofs.Talked.{talk_of, let_go_of}
use Rattle.sockets.proofs.accepting.serve_stream.Goals as goal

pub returns-in-Err-clause-served : goal.returns-in-Err-clause-served
returns-in-Err-clause-served g c = λ none. let_go_of g.H.Handler.state g.H.Handler.finds g.H.Handler.answers (handler_of c.args.sessions.now)

pub returns-in-Ok-clause-served : goal.returns-in-Ok-clause-served
returns-in-Ok-clause-served g c = λ none. talk_of g.H.Handler.state g.H.Handler.finds g.H.Handler.answers _ (handler_of c.args.sessions.now) (handler_of c.serve.new.sessions) c.serve.result _ _
    (transfers_of c.serve.new.reader) (transfers_of c.serve.new.writer) (ap (λ n. connection_at c.args.sessions.now n) c.from.ensures ∙ none)
    (ap transfers_of c.in-Ok.reader-is ∙ c.in-Ok.ensures.0) (ap transfers_of c.in-Ok.writer-is ∙ c.in-Ok.ensures.1) c.serve.ensures.served c.serve.ensures.found

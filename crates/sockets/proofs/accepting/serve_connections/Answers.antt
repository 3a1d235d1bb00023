use Rattle.std.proofs.Common.{◌+◌, [], ◌∷◌, ◌++◌, length-append, ◌∙◌, arith}
use Rattle.connections.specs.Connected.{handler_of}
use Rattle.serving.proofs.Talked.{served_more, found_settled, talk_unsettled}
use Rattle.sockets.proofs.Settled.{none_unsettled, one_unsettled}
use Rattle.sockets.proofs.accepting.serve_connections.Goals as goal

pub loop-served-preserved : goal.loop-served-preserved
loop-served-preserved g c = record {
  free = λ k. c.serve_connection.ensures.free k ∙ c.loop-served.invariant.free k;
  served = λ none.
      let before = c.loop-served.invariant.served none in
      let number = c.loop-served.served + 1 in
      let one = c.serve_connection.ensures.served (c.loop-served.invariant.free number ∙ none number) in (
        before.0 ++ one.0 ∷ [],
        served_more g.H.Handler.answers (g.H.Handler.state (handler_of c.args.sessions.now)) (g.H.Handler.state (handler_of c.loop-served.sessions)) (g.H.Handler.state (handler_of c.serve_connection.new.sessions))
            before.0 one.0 before.1 one.2.served,
        omega (arith, before.2, length-append before.0 (one.0 ∷ [])),
      );
  found = λ none clean s x.
      let number = c.loop-served.served + 1 in
      let one = c.in-Ok-serve_connection.ensures.served (c.loop-served.invariant.free number ∙ none number) in
      found_settled g.H.Handler.answers _ _ s one.0 (none_unsettled one.0.result _ one.1) (one.2.found (c.loop-served.invariant.found none clean) s x);
}

pub returns-in-Err-serve_connection-clause-served : goal.returns-in-Err-serve_connection-clause-served
returns-in-Err-serve_connection-clause-served g c = λ none.
    let before = c.loop-served.invariant.served none in
    let number = c.loop-served.served + 1 in
    let one = c.in-Err-serve_connection.ensures.served (c.loop-served.invariant.free number ∙ none number) in
    let why = one_unsettled one.0.result _ one.1 in
    (before.0, _, one.0, before.1, talk_unsettled g.H.Handler.answers _ _ one.0 _ why one.2.served, why, omega (arith, before.2, c.loop-served-test.true))

pub returns-in-Err-serve_connection-clause-found : goal.returns-in-Err-serve_connection-clause-found
returns-in-Err-serve_connection-clause-found g c = λ none clean s x.
    let before = c.loop-served.invariant.served none in
    let number = c.loop-served.served + 1 in
    let one = c.in-Err-serve_connection.ensures.served (c.loop-served.invariant.free number ∙ none number) in
    let why = one_unsettled one.0.result _ one.1 in (
      before.0,
      _,
      one.0,
      before.1,
      talk_unsettled g.H.Handler.answers _ _ one.0 _ why one.2.served,
      one.2.found (c.loop-served.invariant.found none clean) s x,
    )

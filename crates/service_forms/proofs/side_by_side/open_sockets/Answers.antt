use Rattle.service_forms.proofs.side_by_side.open_sockets.Goals as goal

pub returns-in-Err-clause-err : goal.returns-in-Err-clause-err
returns-in-Err-clause-err g c = c.in-Err.ensures.err c.args.service.listen.now

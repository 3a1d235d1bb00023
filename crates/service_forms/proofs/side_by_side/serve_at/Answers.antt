use Rattle.std.proofs.Common.{inl, refl}
use Rattle.service_forms.proofs.Listened.{served_so}
use Rattle.service_forms.proofs.side_by_side.serve_at.Goals as goal

pub returns-in-Err : goal.returns-in-Err
returns-in-Err g c = inl (c.in-Err.ensures.err c.args.service.listen.now)

pub returns-in-Err-open_sockets : goal.returns-in-Err-open_sockets
returns-in-Err-open_sockets g c = inl c.in-Err-open_sockets.ensures.err

pub returns-in-Ok-ended : goal.returns-in-Ok-ended
returns-in-Ok-ended g c = (refl, served_so (g.H.Registries.serves c.args.registries) _ _ _ _ c.serve_told-ended.result.0 _ c.in-Ok-open_sockets.ensures.reads c.in-Ok-open_sockets.ensures.writes c.in-Ok-ended.is c.serve_told-ended.ensures)

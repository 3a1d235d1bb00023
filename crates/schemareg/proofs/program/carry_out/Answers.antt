use Rattle.schemareg.proofs.program.carry_out.Goals as goal

pub returns-in-Serve-clause-order : goal.returns-in-Serve-clause-order
returns-in-Serve-clause-order g c = rw c.in-Serve.is (c.serve_in_turn.ensures.ends.order, tt)

pub returns-in-ServeMany-clause-order : goal.returns-in-ServeMany-clause-order
returns-in-ServeMany-clause-order g c = rw c.in-ServeMany.is (c.serve_side_by_side.ensures.ends.order, tt)

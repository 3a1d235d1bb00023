use Rattle.std.proofs.Common.{◌∙◌}
use Rattle.sockets.proofs.Taken.{due_again, kept_again}
use Rattle.sockets.proofs.sockets.Sockets.ready.Goals as goal

pub loop-preserved : goal.loop-preserved
loop-preserved g c =
    let turn = c.takes_turn.ensures in
    let before = c.loop.invariant in
    let taken = c.in-Some.ensures in
    record {
      moves = (turn.moves.0 ∙ before.moves.0, turn.moves.1 ∙ before.moves.1, turn.moves.2 ∙ before.moves.2);
      due = λ k d was. due_again c.loop.self.table c.pop.new.self c.takes_turn.new.self.table c.in-Some.id taken.others turn.due (turn.own c.if-takes_turn.false) k d (before.due k d was);
      clients = λ k. kept_again c.loop.self.table c.pop.new.self c.takes_turn.new.self.table c.in-Some.id taken.others taken.told turn.clients k ∙ before.clients k;
      count = turn.count ∙ taken.count ∙ before.count;
    }

pub returns-then-takes_turn-clause-clients : goal.returns-then-takes_turn-clause-clients
returns-then-takes_turn-clause-clients g c k =
    kept_again c.loop.self.table c.pop.new.self c.takes_turn.new.self.table c.in-Some.id c.in-Some.ensures.others c.in-Some.ensures.told c.takes_turn.ensures.clients k ∙ c.loop.invariant.clients k

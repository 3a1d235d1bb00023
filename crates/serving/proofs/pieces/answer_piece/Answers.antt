use Rattle.serving.proofs.Turned.{piece_unsettled}
use Rattle.serving.proofs.pieces.answer_piece.Goals as goal

pub returns-in-Err-clause-answered : goal.returns-in-Err-clause-answered
returns-in-Err-clause-answered g c =
    piece_unsettled g.H.Handler.answers _ _ _ c.args.piece.now _ _ _ _ c.feed_into-fed.result _ c.in-Err.unsettled c.feed_into-fed.ensures.fed c.in-Err.ensures.state

use Rattle.std.proofs.Common.{◌≡◌, [], ◌∷◌, Some, true, take, length-take, refl, sym, ◌∙◌, arith, inl}
use Rattle.http_definitions.specs.Connections.{holding}
use Rattle.serving.specs.Exchanges.{has_bytes}
use Rattle.serving.proofs.Turned.{some_bytes, read_failed, read_ends, piece_failed, piece_ends, piece_goes, piece_found}
use Rattle.serving.proofs.pieces.serve_piece.Goals as goal

pub returns-in-Err-clause-turned : goal.returns-in-Err-clause-turned
returns-in-Err-clause-turned g c = λ start held at x.
    read_failed g.H.Handler.answers start held _ _ _ _ x c.in-Err.ensures.told

pub returns-in-Ok-eq0-clause-turned : goal.returns-in-Ok-eq0-clause-turned
returns-in-Ok-eq0-clause-turned g c = λ start held at x. (
  holding held,
  Some [] ∷ [],
  at,
  inl refl,
  read_ends g.H.Handler.answers start held _ _ _ _ _ _ x c.in-Ok-eq0.ensures.told (omega (arith, c.in-Ok-eq0.field-0-test)),
)

pub returns-in-Err-answer_piece-clause-turned : goal.returns-in-Err-answer_piece-clause-turned
returns-in-Err-answer_piece-clause-turned g c = λ start held at x.
    let full : has_bytes (take c.in-Ok.count c.read.new.buffer) ≡ true =
    some_bytes _ (omega (arith, c.in-Ok.ensures.fits, c.in-Ok.count-test, length-take c.in-Ok.count c.read.new.buffer)) in
    piece_failed g.H.Handler.answers start held _ _ _ _ _ _ _ _ _ _ at x full c.in-Ok.ensures.told c.in-Err-answer_piece.ensures.answered

pub returns-then-is_closed-clause-turned : goal.returns-then-is_closed-clause-turned
returns-then-is_closed-clause-turned g c = λ start held at x.
    let full : has_bytes (take c.in-Ok.count c.read.new.buffer) ≡ true =
    some_bytes _ (omega (arith, c.in-Ok.ensures.fits, c.in-Ok.count-test, length-take c.in-Ok.count c.read.new.buffer)) in
    piece_ends g.H.Handler.answers start held _ _ _ _ _ _ _ _ _ at x full c.in-Ok.ensures.told c.in-Ok-answer_piece.ensures.answered
    (sym c.is_closed.ensures ∙ c.if-is_closed.true)

pub returns-else-is_closed-clause-turned : goal.returns-else-is_closed-clause-turned
returns-else-is_closed-clause-turned g c = λ start held at x.
    let full : has_bytes (take c.in-Ok.count c.read.new.buffer) ≡ true =
    some_bytes _ (omega (arith, c.in-Ok.ensures.fits, c.in-Ok.count-test, length-take c.in-Ok.count c.read.new.buffer)) in
    piece_goes g.H.Handler.answers start held _ _ _ _ _ _ _ _ _ at x full c.in-Ok.ensures.told c.in-Ok-answer_piece.ensures.answered
    (sym c.is_closed.ensures ∙ c.if-is_closed.false)

pub returns-in-Err-answer_piece-clause-found : goal.returns-in-Err-answer_piece-clause-found
returns-in-Err-answer_piece-clause-found g c = λ start held at x clean s y.
    piece_found g.H.Handler.answers start held _ _ _ _ _ s _ _ _ _ c.in-Err-answer_piece.failure at x c.in-Ok.ensures.told c.in-Err-answer_piece.ensures.answered (c.in-Err-answer_piece.ensures.found clean s y)

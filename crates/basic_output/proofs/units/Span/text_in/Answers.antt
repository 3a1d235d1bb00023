use Rattle.std.proofs.Common.{take, arith}
use Rattle.std.proofs.lemmas.Str.{IsCharBoundary-from_take, IsUtf8-from_is_utf8}
use Rattle.basic_output.proofs.units.Span.text_in.Goals as goal

pub range-requires-clause-start_boundary : goal.range-requires-clause-start_boundary
range-requires-clause-start_boundary c = λ _.
    let s = c.args.self.now in
    let t = c.args.text.now in
    IsCharBoundary-from_take t s.start c.utf8.text (omega (arith, c.requires.ordered, c.requires.within)) (IsUtf8-from_is_utf8 (take s.start t) c.requires.start_whole)

pub range-requires-clause-end_boundary : goal.range-requires-clause-end_boundary
range-requires-clause-end_boundary c =
    let s = c.args.self.now in
    let t = c.args.text.now in
    IsCharBoundary-from_take t s.end c.utf8.text (omega (arith, c.requires.within)) (IsUtf8-from_is_utf8 (take s.end t) c.requires.end_whole)

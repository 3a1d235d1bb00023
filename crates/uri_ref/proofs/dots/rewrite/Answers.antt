use Rattle.std.proofs.Common.{codes, lit<, ◌∙◌, sym}
use Rattle.uri_ref.proofs.Rules.{boundary_after}
use Rattle.uri_ref.proofs.dots.rewrite.Goals as goal

pub range_from-requires : goal.range_from-requires
range_from-requires c _ = boundary_after c.args.rest.now (codes "../") 2 c.utf8.rest (sym c.begins.ensures ∙ c.if-begins.true) (lit< tt) (lit< tt)

pub range_from-requires-then-begins-2 : goal.range_from-requires-then-begins-2
range_from-requires-then-begins-2 c _ = boundary_after c.args.rest.now (codes "./") 1 c.utf8.rest (sym c.begins-2.ensures ∙ c.if-begins-2.true) (lit< tt) (lit< tt)

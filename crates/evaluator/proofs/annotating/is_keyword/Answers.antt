use Rattle.std.proofs.Common.{◌∙◌, sym, ap, is_some}
use Rattle.keywords.specs.Rows.{row_named, row_of}
use Rattle.lemmas.proofs.Options.{is_some-map}
use Rattle.evaluator.proofs.annotating.is_keyword.Goals as goal

pub returns : goal.returns
unfolding row_named
returns c = c.is_some.ensures ∙ sym (is_some-map row_of c.keyword.result) ∙ ap is_some c.keyword.ensures

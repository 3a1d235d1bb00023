use Rattle.std.proofs.Common.{◌∙◌, sym, ap, not}
use Rattle.std.proofs.lemmas.Bool.{or_right}
use Rattle.evaluator.proofs.LeafLaws.{leaf_keyword}
use Rattle.evaluator.proofs.silent.only_declares.Goals as goal

pub returns-in_default : goal.returns-in_default
returns-in_default c declares = leaf_keyword c.args.keyword c.in_default.not-ContentSchema (or_right _ _ (ap not (sym c.is_evaluated.ensures) ∙ declares))

-- Laws of all keywords of a schema object: its groups, and then those that look at what others evaluated.
use Rattle.std.proofs.Common.{◌≡◌, ◌++◌, ◌∙◌, ℕ, ap, refl}
use Rattle.definitions.specs.Applied.{Application}
use Rattle.linker.specs.declared.linked.Linked.{Linked}
use Rattle.keywords.specs.declared.keyword.Keyword.TheVariants.{UnevaluatedItems, UnevaluatedProperties}
use Rattle.evaluator.specs.Groups.{first_groups}
use Rattle.evaluation_log.specs.Notes.{Notes, notes_of_both, uses_notes}
use Rattle.evaluator.specs.Rounds.{evaluated_in, groups_uses, object_uses, two_uses, unevaluated_uses}
use Rattle.evaluation_log.specs.declared.log.Before.{Before}
use Rattle.evaluator.proofs.UnevaluatedLaws.{both_after}

pub last_uses : (l : Linked) (left : ℕ) (a : Application) (before : Before) (n mid : Notes) → before ≡ evaluated_in n → mid ≡ notes_of_both n (uses_notes a (groups_uses l left a first_groups))
    → two_uses l left a UnevaluatedItems UnevaluatedProperties before mid ≡ unevaluated_uses l left a (groups_uses l left a first_groups)
last_uses l left a before n mid e m =
    ap (two_uses l left a UnevaluatedItems UnevaluatedProperties before) m ∙ both_after l left a before n (groups_uses l left a first_groups) e

pub all_uses : (l : Linked) (left : ℕ) (a : Application) → groups_uses l left a first_groups ++ unevaluated_uses l left a (groups_uses l left a first_groups) ≡ object_uses l left a
unfolding object_uses
all_uses l left a = refl

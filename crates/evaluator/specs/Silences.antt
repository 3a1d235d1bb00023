-- What passes without a word: it has no errors and no annotations, and evaluates and applies nothing.
use Rattle.std.specs.Prelude.{◌≡◌, ◌&&◌, List, Bool, Option, Some, None, true, option_map, unwrap_or}
use Rattle.std.specs.List.{list_all}
use Rattle.definitions.specs.Applied.{Application}
use Rattle.definitions.specs.Outcomes.{Use}
use Rattle.definitions.specs.Assertions.{Assertion, holds}
use Rattle.definitions.specs.Keywords.{Keyword}
use Rattle.definitions.specs.Values.{Text, Value}
use Rattle.assertions.specs.AssertionView.{assertion_in}
use Rattle.keywords.specs.Rows.{row_named}
use Rattle.evaluator.specs.Leaves.{is_leaf_mark}
use Rattle.evaluation_log.specs.Notes.{no_notes, uses_notes}
use Rattle.evaluator.specs.Presents.{mark_of}

-- the uses of its keywords
pub record AreSilent (a : Application) (us : List Use) : Type 0 where
  pub passes : list_all (λ u. u.passes) us ≡ true
  pub noted : uses_notes a us ≡ no_notes

abbrev pub assertion_of_row : Option Keyword → Option Assertion
assertion_of_row (Some row) = assertion_in row.meaning
assertion_of_row None = None

-- the assertion that a member of a schema object makes, if it makes one, holds of the instance
abbrev pub is_member_met : Value → Text × Value → Bool
is_member_met instance m = unwrap_or (option_map (λ x. holds x m.1 instance) (assertion_of_row (row_named m.0))) true

-- .. and it makes one, or only declares
abbrev pub is_met_alone : Value → Text × Value → Bool
is_met_alone instance m = is_leaf_mark (mark_of m.0) && is_member_met instance m

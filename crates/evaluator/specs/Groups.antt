-- The groups of keywords that an object is judged by, and which of them it has.
use Rattle.std.specs.Prelude.{List, Bool, true, false, not, ◌||◌, is_some, take}
use Rattle.assertions.specs.AssertionView.{assertion_in}
use Rattle.definitions.specs.Keywords as table
use Rattle.keyword_plans.specs.Plans.{counts_contained, is_consequence}
use Rattle.keywords.specs.Rows.{row_of}
use Rattle.keywords.specs.Groups.{group_number, in_order}
pub use Rattle.keywords.specs.Groups.{rows_of}
use Rattle.keywords.specs.declared.group.Group.{Group}
use Rattle.keywords.specs.declared.group.Group.TheVariants.{One}
use Rattle.keywords.specs.declared.keyword.Keyword.TheVariants.{UnevaluatedItems}

-- all that don't look at what others evaluated, in the order of evaluation
unfoldable pub first_groups : List Group
first_groups = take (group_number (row_of UnevaluatedItems).name) in_order

-- whether it asks for nothing that keywords beside say or evaluate
abbrev pub stands_alone : Group → Bool
stands_alone (One keyword) =
    let meaning = (row_of keyword).meaning in not (is_consequence meaning || (counts_contained meaning || table.looks_at_evaluated meaning))
stands_alone _ = true

-- whether it looks at its own value and the instance alone
abbrev pub asserts_alone : Group → Bool
asserts_alone (One keyword) = is_some (assertion_in (row_of keyword).meaning)
asserts_alone _ = false

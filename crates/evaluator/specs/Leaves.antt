-- Schema objects that apply nothing.
use Rattle.std.specs.Prelude.{◌≡◌, ◌<◌, ◌||◌, ◌==◌, ℕ, Bool, List, false, get_or, is_some, length}
use Rattle.std.specs.List.{list_any}
use Rattle.definitions.specs.Values.{Text, Value, get, members}
use Rattle.keywords.specs.Groups.{in_order}
use Rattle.keywords.specs.Rows.{row_of}
use Rattle.keywords.specs.declared.group.Group.TheVariants.{One}
use Rattle.keywords.specs.declared.keyword.Keyword.TheVariants.{Ref, UnevaluatedItems, UnevaluatedProperties}
use Rattle.evaluator.specs.Groups.{asserts_alone, first_groups}
use Rattle.evaluator.specs.Presents.{has_mark}

-- it has groups alone that look at their own values and the instance
pub record IsLeaf (s : Value) : Type 0 where
  pub first : (i : ℕ) → i < length first_groups → asserts_alone (get_or first_groups i (One Ref)) ≡ false → list_any (has_mark i) (members s) ≡ false
  pub last : (is_some (get (row_of UnevaluatedItems).name s) || is_some (get (row_of UnevaluatedProperties).name s)) ≡ false

-- the marks of such groups, and that of keywords that only declare
unfoldable pub is_leaf_mark : ℕ → Bool
is_leaf_mark i = asserts_alone (get_or first_groups i (One Ref)) || (i == length in_order)

-- members that have such marks alone
abbrev pub HasLeafMarks : List (Text × Value) → Type 0
HasLeafMarks ms = (i : ℕ) → is_leaf_mark i ≡ false → list_any (has_mark i) ms ≡ false

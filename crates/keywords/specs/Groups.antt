-- The groups of keywords that are evaluated together, and their order.
use Rattle.std.specs.Prelude.{ℕ, suc, List, [], ◌∷◌, Bool, true, false, not, if◌then◌else◌}
use Rattle.std.specs.List.{list_any}
use Rattle.definitions.specs.Values.{Text, same_text}
use Rattle.definitions.specs.Keywords as table
use Rattle.definitions.specs.Keywords.{Meaning, declares}
use Rattle.keywords.specs.Rows.{row_of}
use Rattle.keywords.specs.declared.group.Group.{Group}
use Rattle.keywords.specs.declared.group.Group.TheVariants.{One, Conditional, Counted, Empty}
use Rattle.keywords.specs.declared.keyword.TheConstants.{GROUPS}
use Rattle.keywords.specs.declared.keyword.Keyword.TheVariants.{If, Then, Else, Contains, MinContains, MaxContains}

abbrev pub only_declares : Meaning → Bool
only_declares declares = true
only_declares _ = false

abbrev pub is_evaluated : table.Keyword → Bool
is_evaluated k = not (only_declares k.meaning)

-- the rows of its keywords
abbrev pub rows_of : Group → List table.Keyword
rows_of (One keyword) = row_of keyword ∷ []
rows_of Conditional = row_of If ∷ row_of Then ∷ row_of Else ∷ []
rows_of Counted = row_of Contains ∷ row_of MinContains ∷ row_of MaxContains ∷ []
rows_of Empty = []

-- the group that begins with each keyword, in the order of evaluation
unfoldable pub in_order : List Group
in_order = GROUPS

abbrev pub has_name : Text → Group → Bool
has_name name g = list_any (λ k. same_text name k.name) (rows_of g)

-- how many groups stand before that of the keyword of this name: all, if none has it
unfoldable pub groups_before : Text → List Group → ℕ
groups_before name [] = 0
groups_before name (g ∷ gs) = if has_name name g then 0 else suc (groups_before name gs)

-- in the order of evaluation
unfoldable pub group_number : Text → ℕ
group_number name = groups_before name in_order

-- The groups of keywords, by the definitions' table.
use Rattle.std.proofs.Common.{◌≡◌, ◌≤◌, ℕ, suc, List, [], ◌∷◌, Bool, true, false, Some, Contains, length, cond, filter, flat_map, slice_get, slice_index_or, refl, arith}
use Rattle.std.proofs.lemmas.Option.{get_or_from_slice_get, slice_get_within}
use denote.Enum.Declared.{tag_of}
use Rattle.definitions.specs.Values.{Text}
use Rattle.definitions.specs.Keywords.{keywords}
use Rattle.keywords.specs.Groups.{group_number, groups_before, has_name, in_order, is_evaluated, rows_of}
use Rattle.keywords.specs.Rows.{row_of}
use Rattle.keywords.specs.contracts.keyword.Keyword.{the_type}
use Rattle.keywords.specs.declared.group.Group.{Group}
use Rattle.keywords.specs.declared.keyword.Keyword.{Keyword}
use Rattle.keywords.specs.declared.keyword.TheConstants.{NUMBERS}
use Rattle.keywords.specs.declared.keyword.Keyword.TheVariants.{Ref}

pub ordered : flat_map rows_of in_order ≡ filter is_evaluated keywords
unfolding in_order
ordered = refl

-- ---- where a keyword stands in the table
abbrev pub position : Keyword → ℕ
position k = tag_of the_type k

at_position : (k : Keyword) → slice_get keywords (position k) ≡ Some (row_of k)
at_position Ref = refl
at_position _ = refl

pub row_in : (k : Keyword) → Contains keywords (row_of k)
row_in k = (position k, slice_get_within keywords (position k) (row_of k) (at_position k), get_or_from_slice_get keywords (position k) (row_of k) (row_of k) (at_position k))

-- ---- the numbers of the groups
pub numbered : (k : Keyword) → slice_index_or NUMBERS (position k) 0 ≡ group_number (row_of k).name
unfolding group_number groups_before in_order
numbered Ref = refl
numbered _ = refl

before_all : (b : Bool) (n m : ℕ) → n ≤ m → cond b 0 (suc n) ≤ suc m
before_all true n m h = omega arith
before_all false n m h = omega (arith, h)

groups_within : (name : Text) (gs : List Group) → groups_before name gs ≤ length gs
unfolding groups_before
groups_within name [] = omega arith
groups_within name (g ∷ gs) = before_all (has_name name g) (groups_before name gs) (length gs) (groups_within name gs)

pub number_within : (name : Text) → group_number name ≤ length in_order
unfolding group_number
number_within name = groups_within name in_order

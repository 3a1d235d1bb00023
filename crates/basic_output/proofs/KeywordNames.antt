-- Keywords' names stand as they are in pointers, in their fragments and in strings.
use Rattle.std.proofs.Common.{◌≡◌, true, refl}
use Rattle.std.specs.List.{list_all}
use Rattle.keywords.specs.Rows.{row_of}
use Rattle.keywords.specs.declared.keyword.Keyword.{Keyword}
use Rattle.keywords.specs.declared.keyword.Keyword.TheVariants.{Ref}
use Rattle.basic_output.specs.Pieces.{is_plain, is_unescaped}
use Rattle.basic_output.proofs.PlainLaws.{plain_unescaped}

pub name_is_plain : (k : Keyword) → list_all is_plain (row_of k).name ≡ true
name_is_plain Ref = refl
name_is_plain _ = refl

pub name_is_unescaped : (k : Keyword) → list_all is_unescaped (row_of k).name ≡ true
name_is_unescaped k = plain_unescaped (row_of k).name (name_is_plain k)

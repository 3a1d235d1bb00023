-- How a text stands to itself.
use Rattle.std.proofs.Common.{◌≡◌, ◌∙◌}
use Rattle.std.proofs.lemmas.Map.Text.{is_eq-slice_cmp}
use Rattle.std.proofs.lemmas.Slice.Eq.{bytes_eq-Decides}
use Rattle.std.specs.Cmp.{Equal-is}
use Rattle.std.specs.Cmp.Lexicographic.{slice_cmp}
use Rattle.std.specs.Ordering.{nat_cmp}
use Rattle.std.specs.declared.cmp.Ordering.TheVariants.{Equal}
use Rattle.definitions.specs.Values.{Text}

pub same_is_equal : (s t : Text) → s ≡ t → slice_cmp nat_cmp s t ≡ Equal
same_is_equal s t same = (Equal-is (slice_cmp nat_cmp s t)).0 (is_eq-slice_cmp s t ∙ (bytes_eq-Decides s t).1 same)

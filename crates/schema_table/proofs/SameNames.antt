-- What the orders of texts, and of pairs of texts, take for the same.
use Rattle.std.proofs.Common.{◌≡◌, ◌&&◌, Bor, Less, Equal, Greater, Ordering, refl, ap₂, ◌∙◌}
use Rattle.std.proofs.lemmas.Map.Text.{is_eq-slice_cmp}
use Rattle.std.specs.Ordering.{is_eq, eq_by_cmp, ordering_then}
use Rattle.definitions.specs.Values.{Text}
use Rattle.definitions.specs.Scanning.{same_anchor}
use Rattle.lemmas.proofs.Texts.{text_order}
use Rattle.schema_table.specs.AnchorViews.{anchor_view}

abbrev pub pair_order : Bor Text × Bor Text → Bor Text × Bor Text → Ordering
pair_order x y = ordering_then (text_order x.0 y.0) (text_order x.1 y.1)

both_equal : (a b : Ordering) → is_eq (ordering_then a b) ≡ (is_eq a && is_eq b)
both_equal Less b = refl
both_equal Equal b = refl
both_equal Greater b = refl

pub same-anchors : (x y : Bor Text × Bor Text) → eq_by_cmp pair_order x y ≡ same_anchor (anchor_view x) (anchor_view y)
same-anchors x y =
    both_equal (text_order x.0 y.0) (text_order x.1 y.1) ∙ ap₂ (λ a b. a && b) (is_eq-slice_cmp x.0.now y.0.now) (is_eq-slice_cmp x.1.now y.1.now)

use Rattle.std.proofs.Common.{◌≡◌, ◌+◌, ◌∙◌, ◌==◌, ◌∷◌, ◌++◌, sym, ap, map, drop}
use Rattle.std.specs.List.{list_any}
use Rattle.std.proofs.lemmas.List.{map-append}
use Rattle.json_doc.specs.Docs.{value}
use Rattle.applicators.specs.Applications.{planned_unevaluated_items}
use Rattle.applicators.specs.Plans.{planned_view}
use Rattle.applicators.proofs.Growing.{grown, next_item}
use Rattle.applicators.proofs.Seen.{is_in-by_order}
use Rattle.applicators.proofs.Unevaluated.{skipped, item-new, item-old}
use Rattle.applicators.proofs.planning.unevaluated.plan_unevaluated_elements.Goals as goal
use Rattle.applicators.proofs.planning.unevaluated.plan_unevaluated_elements.Goals.{then-not-is_in+in_ok-push, else-not-is_in}

pub loop-index-preserved : goal.loop-index-preserved
loop-index-preserved c a k =
    let v = value c.args.schema.now in
    let is = c.args.indexes.now in
    let i = c.loop-index.index in
    let x = c.index-items-index.result in
    let rest = map value (drop (i + 1) c.args.items.now) in
    let left : map value (drop i c.args.items.now) ≡ value x ∷ rest =
    ap (map value) (next_item c.args.items.now i x c.loop-index-test.true c.index-items-index.is) in
    let found : c.is_in.result ≡ list_any (λ j. j == i) is = c.is_in.ensures ∙ c.in_ok-evaluated.ensures i ∙ is_in-by_order i is in
    elim c.if-not-is_in.branch [
      | then-not-is_in+in_ok-push w ↦
          grown (map (planned_view k a) c.loop-index.planned.items) _ _ _ (planned_unevaluated_items k a v is (i + 1) rest) _
          (ap (λ ps. map (planned_view k a) ps.items) w.planned-is ∙ ap (map (planned_view k a)) w.in_ok-push.ensures.items ∙ map-append (planned_view k a) c.loop-index.planned.items _)
          (ap (planned_unevaluated_items k a v is i) left ∙ item-new k a v is i (value x) rest (sym found ∙ w.if-not-is_in.true))
          (c.loop-index.invariant a k)
      | else-not-is_in w ↦
          ap (λ ps. map (planned_view k a) ps.items ++ planned_unevaluated_items k a v is (i + 1) rest) w.planned-is
          ∙ skipped (map (planned_view k a) c.loop-index.planned.items) _ (planned_unevaluated_items k a v is (i + 1) rest) _
          (ap (planned_unevaluated_items k a v is i) left ∙ item-old k a v is i (value x) rest (sym found ∙ w.if-not-is_in.false))
          (c.loop-index.invariant a k)
    ]

use Rattle.std.proofs.Common.{List, rules, subst, IsPermutation}
use Rattle.std.proofs.lemmas.List.Sorted.{answers_always, IsPermutation-map}
use Rattle.definitions.specs.Values.{Value}
use Rattle.value_order.specs.Sorts.{values_behind, is_before}
use Rattle.value_order.proofs.Sorting.{behind, before_ranks}
use Rattle.value_order.proofs.uniqueness.sorted.Goals as goal

pub returns : goal.returns
returns c =
    let done = c.sort_unstable_by.ensures in
    let docs = c.sort_unstable_by.new.self.items in (
      subst (λ (vs : List Value). IsPermutation vs (values_behind docs)) c.in_ok-docs.ensures (IsPermutation-map behind _ docs done.permutation),
      done.sorted is_before before_ranks (answers_always _ _ _ (λ f a r g h. search rules)),
    )

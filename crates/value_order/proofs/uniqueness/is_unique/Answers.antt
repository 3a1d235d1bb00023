use Rattle.std.proofs.Common.{◌≡◌, IfOk, map, not, Bool, subst, sym, ap, ◌∙◌}
use Rattle.definitions.specs.Values.{same}
use Rattle.definitions.specs.Lists.{has_repeat}
use Rattle.definitions.specs.Assertions.{is_unique}
use Rattle.json_doc.specs.Docs.{value}
use Rattle.value_order.proofs.uniqueness.is_unique.Goals as goal
use Rattle.json_doc.proofs.Views.{is_unique-List}

pub returns-in-List : goal.returns-in-List
returns-in-List c =
    subst (λ (x : Bool). IfOk c.are_distinct.result (λ b. b ≡ x))
    (ap (λ ds. not (has_repeat same (map value ds))) c.as_slice.ensures.value
    ∙ sym (ap (λ d. is_unique (value d)) c.in-List.is ∙ is_unique-List c.in-List.items))
    c.are_distinct.ensures

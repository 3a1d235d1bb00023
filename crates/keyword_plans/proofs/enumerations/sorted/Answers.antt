use Rattle.std.proofs.Common.{sym, ap, ◌∙◌}
use Rattle.std.specs.List.{list_any}
use Rattle.definitions.specs.Assertions.{enum_of, holds}
use Rattle.definitions.specs.Values.{same}
use Rattle.json_doc.specs.Docs.{value}
use Rattle.keyword_plans.proofs.Enumerating.{found_among}
use Rattle.keyword_plans.proofs.enumerations.sorted.Goals as goal

pub returns-in_ok-of-in-List : goal.returns-in_ok-of-in-List
returns-in_ok-of-in-List c =
    λ x.
    c.in_ok-of-in-List.ensures x ∙ ap (list_any (λ d. same x (value d))) c.deref.ensures.value ∙ found_among c.in-List.values x
    ∙ sym (ap (λ d. holds enum_of (value d) x) c.in-List.is)

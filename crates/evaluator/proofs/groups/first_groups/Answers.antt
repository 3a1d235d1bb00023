use Rattle.std.proofs.Common.{◌≤◌, ◌∙◌, length, take, ap, sym, arith}
use Rattle.std.proofs.lemmas.List.{length-take-le}
use Rattle.keywords.specs.Groups.{group_number}
use Rattle.keywords.specs.Rows.{row_of}
use Rattle.keywords.specs.declared.keyword.Keyword.TheVariants.{UnevaluatedItems}
use Rattle.keywords.proofs.Grouped.{number_within}
use Rattle.evaluator.specs.Groups.{first_groups}
use Rattle.evaluator.proofs.groups.first_groups.Goals as goal

pub slice_bounds-result-end : goal.slice_bounds-result-end
slice_bounds-result-end c =
    let within : c.group_number.result ≤ length c.groups.result.now =
    omega (arith, c.group_number.ensures, number_within (row_of UnevaluatedItems).name, ap length c.groups.ensures.groups) in
    sym (length-take-le c.group_number.result c.groups.result.now within)

pub returns : goal.returns
unfolding first_groups
returns c = ap (λ n. take n c.groups.result.now) c.group_number.ensures ∙ ap (take (group_number (row_of UnevaluatedItems).name)) c.groups.ensures.groups

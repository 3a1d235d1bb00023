use Rattle.json_doc.specs.Docs.{value}
use Rattle.keywords.specs.Rows.{row_of}
use Rattle.applicators.specs.Plans.{outcomes_of}
use Rattle.keyword_plans.specs.ObjectApplications.{linked_rules}
use Rattle.keyword_plans.proofs.Verdicts.{by_count, with_all}
use Rattle.keyword_plans.proofs.verdict.passes.Goals as goal

pub returns-in_default-keyword-clause-passes : goal.returns-in_default-keyword-clause-passes
returns-in_default-keyword-clause-passes c a run names indexes shows same beside containing applied passing =
    let rules = linked_rules c.args.application.linked.now in
    let row = row_of c.args.keyword in
    let v = value c.args.keyword_value.now in
    let os = outcomes_of rules run names indexes a row.name row.meaning v in
    let left = c.in_default-keyword in
    by_count rules run a row.name row.meaning v os c.args.passing c.args.applied
    (with_all c.args.keyword left.not-Ref left.not-DynamicRef left.not-Pattern left.not-AnyOf left.not-OneOf left.not-Not left.not-If left.not-Contains left.not-MinContains left.not-MaxContains
    c.in_default.ensures rules run a row.name v os)
    applied passing

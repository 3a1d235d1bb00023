use Rattle.json_doc.specs.Members.{members_left}
use Rattle.evaluator.proofs.DollarLaws.{are_after_dollar, are_at_dollar, are_before_dollar}
use Rattle.evaluator.proofs.dollar_names.cut_at_dollar_names.Goals as goal

pub returns : goal.returns
returns c = record {
  all = c.cut_between.ensures.all;
  before = are_before_dollar (members_left c.cut_between.result.before) c.cut_between.ensures.before;
  within = are_at_dollar (members_left c.cut_between.result.within) c.cut_between.ensures.within.0 c.cut_between.ensures.within.1;
  after = are_after_dollar (members_left c.cut_between.result.after) c.cut_between.ensures.after.1;
}

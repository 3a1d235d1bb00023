use Rattle.file_forms.proofs.Checked.{by_linked}
use Rattle.file_forms.proofs.checking.check_linked.Goals as goal

pub returns : goal.returns
returns g c = record {
  subjects = c.check_all.ensures.subjects;
  named = c.check_all.ensures.are;
  accounts = by_linked _ _ _ _ _ _ _ _ _ _ _ c.new-run.result.tally c.check_all.new.self.tally _ c.new-checker.ensures c.new-run.ensures.printing c.new-run.ensures.status
      c.sum_up.ensures.printed c.sum_up.ensures.told c.status.ensures c.check_all.ensures.accounts;
}

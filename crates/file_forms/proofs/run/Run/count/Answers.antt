use Rattle.file_forms.proofs.Counted.{counted}
use Rattle.file_forms.proofs.run.Run.count.Goals as goal

pub returns-clause-status : goal.returns-clause-status
returns-clause-status c =
    let add = c.add.ensures in
    counted c.args.verdict c.args.self.now.tally c.add.new.self add.refused add.invalid add.keeps add.valid add.alone

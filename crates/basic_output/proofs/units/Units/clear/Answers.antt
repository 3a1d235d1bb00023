use Rattle.basic_output.proofs.BufferLaws.{whole_start}
use Rattle.basic_output.proofs.units.Units.clear.Goals as goal

pub truncate-requires : goal.truncate-requires
truncate-requires c _ = whole_start c.args.self.now.text

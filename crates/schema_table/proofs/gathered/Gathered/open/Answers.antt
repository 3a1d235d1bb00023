use Rattle.std.proofs.Common.{refl}
use Rattle.schema_table.specs.Gathering.{gathered_patterns}
use Rattle.schema_table.proofs.Gatherings.{on_ok-opened}
use Rattle.schema_table.proofs.gathered.Gathered.open.Goals as goal

pub returns-clause-gathers : goal.returns-clause-gathers
unfolding gathered_patterns
returns-clause-gathers c = on_ok-opened c.open.result c.args.self.now _ refl c.open.ensures.extends

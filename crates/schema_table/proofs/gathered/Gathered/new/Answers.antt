use Rattle.std.proofs.Common.{Bor, map, ap}
use Rattle.definitions.specs.Values.{Text}
use Rattle.schema_table.specs.Gathering.{gathered_patterns}
use Rattle.schema_table.proofs.gathered.Gathered.new.Goals as goal

pub returns : goal.returns
unfolding gathered_patterns
returns c = record { table = c.new.ensures; patterns = ap (map (λ (t : Bor Text). t.now)) c.new-2.ensures.items }

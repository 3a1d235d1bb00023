use Rattle.json_doc.specs.Docs.{value}
use Rattle.locations.specs.Hops.{step_hops}
use Rattle.schema_table.specs.Gathering.{gathered_patterns}
use Rattle.schema_table.specs.Spots.{spot_in}
use Rattle.schema_table.proofs.Gatherings.{on_ok-added}
use Rattle.schema_table.proofs.gathered.Gathered.add.Goals as goal

pub returns : goal.returns
unfolding gathered_patterns
returns c =
    on_ok-added c.push_patterns.result c.args.self.now _ (spot_in (step_hops c.args.way.now) c.args.start c.args.uri.now (value c.args.schema.now))
    c.in_ok-add.ensures c.push_patterns.ensures

use Rattle.locations.proofs.WayLaws.{name_boundary}
use Rattle.locations.proofs.owned_way.cut_step.Goals as goal

pub range-requires-clause-end_boundary : goal.range-requires-clause-end_boundary
range-requires-clause-end_boundary c = name_boundary c.args.kept c.in-Name.len c.args.names.now c.in-Name.is c.utf8.names c.requires

pub range_from-requires : goal.range_from-requires
range_from-requires c _ = name_boundary c.args.kept c.in-Name.len c.args.names.now c.in-Name.is c.utf8.names c.requires

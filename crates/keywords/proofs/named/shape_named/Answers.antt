use Rattle.std.proofs.Common.{Some, None, ◌∙◌}
use Rattle.keywords.specs.Rows.{row_of}
use Rattle.keywords.proofs.Names.{shape_there}
use Rattle.keywords.proofs.named.shape_named.Goals as goal

pub returns-in-Some : goal.returns-in-Some
returns-in-Some c = c.shape.ensures ∙ shape_there c.args.name.now (Some (row_of c.in-Some.keyword)) c.in-Some.ensures

pub returns-in-None : goal.returns-in-None
returns-in-None c = shape_there c.args.name.now None c.in-None.ensures

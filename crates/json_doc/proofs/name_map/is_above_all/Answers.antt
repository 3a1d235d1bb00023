use Rattle.json_doc.proofs.Positions.{above_last}
use Rattle.json_doc.proofs.name_map.is_above_all.Goals as goal

pub returns-in-Some : goal.returns-in-Some
returns-in-Some g c holds =
    above_last c.args.name.now c.as_str.result.now c.args.entries.now c.in-Some.field-0.now c.compare_names.result c.requires c.in-Some.ensures.value c.as_str.ensures c.compare_names.ensures (rw c.is_gt.ensures at holds)

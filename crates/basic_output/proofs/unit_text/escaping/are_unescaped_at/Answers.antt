use Rattle.json.proofs.Printed.Plain.{plain_from_lanes}
use Rattle.basic_output.proofs.unit_text.escaping.are_unescaped_at.Goals as goal

pub returns : goal.returns
returns g c = plain_from_lanes c.args.bytes.now c.args.at g.row.N c.requires.1 c.requires.0 c.type_inv.bytes

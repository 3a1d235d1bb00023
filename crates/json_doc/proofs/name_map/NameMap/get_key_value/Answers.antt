use Rattle.json_doc.proofs.Positions.{shown_at_position, none_shown}
use Rattle.json_doc.proofs.name_map.NameMap.get_key_value.Goals as goal

pub returns-in-Ok : goal.returns-in-Ok
returns-in-Ok g c =
    shown_at_position c.args.name.now c.as_slice-entries.result.now c.args.self.now c.in-Ok.position c.index-entries-position.result c.as_slice-entries.ensures.all c.index-entries-position.is c.in-Ok.ensures.found

pub returns-in-Err : goal.returns-in-Err
returns-in-Err g c = none_shown c.args.name.now c.as_slice-entries.result.now c.args.self.now _ c.as_slice-entries.ensures.all c.in-Err.ensures.gap

use Rattle.json_doc.specs.SmallTexts.{short_text}
use Rattle.json_doc.proofs.Positions.{shown_at_position}
use Rattle.json_doc.proofs.name_map.NameMap.get_key_value_of.Goals as goal

pub returns-in-Some : goal.returns-in-Some
returns-in-Some g c =
    shown_at_position (short_text c.args.name.now) c.as_slice-entries.result.now c.args.self.now c.in-Some.position c.index-entries-position.result c.as_slice-entries.ensures.all c.index-entries-position.is c.in-Some.ensures

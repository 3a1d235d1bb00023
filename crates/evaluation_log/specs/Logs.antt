-- What a log shows.
use Rattle.std.specs.Prelude.{map}
use Rattle.json_doc.specs.NamedMembers.{name_text}
use Rattle.basic_output.specs.Units.{unit_texts}
use Rattle.evaluation_log.specs.Notes.{Notes, Lengths}
use Rattle.evaluation_log.specs.declared.log.Log.{Log}
use Rattle.evaluation_log.specs.declared.log.LogMark.{LogMark}

unfoldable pub log_view : Log → Notes
log_view l = record {
  errors = unit_texts l.units.value.errors;
  annotations = unit_texts l.units.value.annotations;
  names = map name_text l.names.items;
  indexes = l.indexes.items;
  tally = record { count = l.count; looped = l.looped; deep = l.deep };
}

abbrev pub mark_view : LogMark → Lengths
mark_view m = record { errors = m.errors; annotations = m.annotations; names = m.names; indexes = m.indexes }

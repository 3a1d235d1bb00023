-- The entries of a batch as the definitions have them.
use Rattle.definitions.specs.Batches as meaning
use Rattle.json_doc.specs.Docs.{value}
use Rattle.tenants_file.specs.declared.batches.BatchEntry.{BatchEntry}

abbrev pub entry_view : BatchEntry → meaning.Entry
entry_view e = record { uri = e.uri.now; schema = value e.schema.now }

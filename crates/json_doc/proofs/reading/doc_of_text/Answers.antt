use Rattle.serde_json.specs.Read.{read}
use Rattle.json_doc.specs.Docs.{value}
use Rattle.json_doc.proofs.WholeTexts.{value_read}
use Rattle.json_doc.proofs.reading.doc_of_text.Goals as goal

pub returns-in-Ok-clause-ok : goal.returns-in-Ok-clause-ok
returns-in-Ok-clause-ok c = value_read (read c.args.text.now) (value c.in-Ok.doc) c.in-Ok.ensures

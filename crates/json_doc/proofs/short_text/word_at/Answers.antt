use Rattle.json_doc.specs.Words.{word_at}
use Rattle.json_doc.proofs.short_text.word_at.Goals as goal

pub returns : goal.returns
unfolding word_at
returns c = c.from_le_bytes.ensures

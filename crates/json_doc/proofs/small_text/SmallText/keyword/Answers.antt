use Rattle.std.proofs.Common.{sym, ap, ◌∙◌}
use Rattle.keywords.specs.Rows.{row_named}
use Rattle.json_doc.specs.SmallTexts.{text_view}
use Rattle.keywords.proofs.Names.{row_there}
use Rattle.json_doc.proofs.small_text.SmallText.keyword.Goals as goal

pub returns-in-Keyword : goal.returns-in-Keyword
returns-in-Keyword c = row_there c.in-Keyword.keyword ∙ ap (λ t. row_named (text_view t)) (sym c.in-Keyword.is)

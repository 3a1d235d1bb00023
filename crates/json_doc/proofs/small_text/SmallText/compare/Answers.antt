use Rattle.std.proofs.Common.{sym, ap, ◌∙◌}
use Rattle.json_doc.specs.SmallTexts.{text_view}
use Rattle.json_doc.proofs.SameTexts.{same_is_equal}
use Rattle.json_doc.proofs.small_text.SmallText.compare.Goals as goal

pub returns-in-Short : goal.returns-in-Short
returns-in-Short c = sym (same_is_equal _ _ (c.is_short.ensures c.if-is_short.true ∙ sym (ap text_view c.in-Short.is)))

use Rattle.keywords.proofs.Names.{named_has}
use Rattle.json_doc.proofs.small_text.SmallText.named.Goals as goal

pub returns-in-Some : goal.returns-in-Some
returns-in-Some c = named_has c.args.text.now c.named.result c.in-Some.keyword c.in-Some.is c.named.ensures

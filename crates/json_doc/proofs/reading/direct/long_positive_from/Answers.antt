use Rattle.std.proofs.Common.{◌≡◌, Some, IfSome, false, option_and_then, subst}
use Rattle.serde_json.specs.Find.{as_integer}
use Rattle.serde_json.specs.Read.{number_from}
use Rattle.json_doc.proofs.reading.direct.long_positive_from.Goals as goal

pub returns : goal.returns
returns c = subst (λ parts. IfSome c.positive_of.result (λ z. option_and_then as_integer (number_from false parts) ≡ Some z)) c.scan.ensures.parts c.positive_of.ensures

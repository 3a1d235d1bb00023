use Rattle.std.proofs.Common.{◌≡◌, Some, IfSome, true, option_and_then, subst}
use Rattle.serde_json.specs.Find.{as_integer}
use Rattle.serde_json.specs.Read.{number_from}
use Rattle.json_doc.proofs.reading.direct.long_negative_from.Goals as goal

pub returns : goal.returns
returns c = subst (λ parts. IfSome c.negative_of.result (λ z. option_and_then as_integer (number_from true parts) ≡ Some z)) c.scan.ensures.parts c.negative_of.ensures

use Rattle.std.proofs.Common.{ap, ◌∙◌}
use Rattle.std.proofs.lemmas.Str.{is_utf8-from_IsUtf8}
use Rattle.std.specs.Str.{is_utf8}
use Rattle.json_doc.proofs.short_text.ShortText.of.Goals as goal

pub invariant_of-result-clause-within : goal.invariant_of-result-clause-within
invariant_of-result-clause-within c = c.if-len-gt-SHORT.false

pub invariant_of-result-clause-utf8 : goal.invariant_of-result-clause-utf8
invariant_of-result-clause-utf8 c = ap is_utf8 c.padded.ensures ∙ is_utf8-from_IsUtf8 c.args.text.now c.utf8.text

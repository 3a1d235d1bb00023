use Rattle.std.proofs.Common.{◌++◌, length, take, arith, ap, ◌∙◌}
use Rattle.std.proofs.lemmas.Str.{is_utf8-from_IsUtf8}
use Rattle.basic_output.proofs.unit_text.buffer.write.Goals as goal

pub returns-clause-written : goal.returns-clause-written
returns-clause-written c = record {
  within = omega (arith, c.requires, c.place.ensures.moved, c.place.ensures.len, ap length c.as_bytes.ensures.value);
  written = c.place.ensures.bytes ∙ ap (λ t. take c.args.start c.args.bytes.now ++ t) c.as_bytes.ensures.value;
  utf8 = is_utf8-from_IsUtf8 c.args.text.now c.utf8.text;
}

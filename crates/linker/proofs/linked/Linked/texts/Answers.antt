use Rattle.std.proofs.Common.{◌++◌, map, string_bytes, ap, subst, ◌∙◌}
use Rattle.std.specs.BTreeMap.{keys}
use Rattle.std.specs.List.{flat_map}
use Rattle.text_numbers.specs.TextNumbers.{AreNumbers}
use Rattle.linker.specs.DocumentTexts.{identifying_texts}
use Rattle.linker.proofs.NumberedTexts.{all_told}
use Rattle.linker.proofs.linked.Linked.texts.Goals as goal

pub returns : goal.returns
returns c =
    all_told c.args.self.now _
    (c.in_ok-add_names.ensures ∙ ap (λ ts. ts ++ map string_bytes (keys c.args.self.now.dynamic_resources)) (c.in_ok-texts.ensures ∙ ap (flat_map identifying_texts) c.deref.ensures.value))
    (subst (λ ts. AreNumbers c.in_ok-numbers.numbers (map (λ t. t.now) ts)) c.deref-2.ensures.value c.in_ok-numbers.ensures)

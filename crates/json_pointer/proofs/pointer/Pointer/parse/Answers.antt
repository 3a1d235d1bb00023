use Rattle.std.proofs.Common.{◌==◌, length, true≢false, None, refl, sym, ap, ◌∙◌, lit<}
use Rattle.std.proofs.lemmas.Str.Pattern.{strip_prefix_char}
use Rattle.json_pointer.proofs.Unescaped.{no_pointer}
use Rattle.json_pointer.proofs.pointer.Pointer.parse.Goals as goal

pub returns-in_default-clause-err : goal.returns-in_default-clause-err
returns-in_default-clause-err c = λ other.
    let none = strip_prefix_char 47 c.args.text.now None c.in_default.ensures.cases (lit< tt) in
    (refl, no_pointer c.args.text.now (λ empty. true≢false (sym (ap (λ bs. length bs == 0) empty) ∙ sym c.is_empty.ensures ∙ c.if-is_empty.false)) none)

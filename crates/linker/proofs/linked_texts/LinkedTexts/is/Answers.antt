use Rattle.std.proofs.Common.{Some, Bor, option_map, sym, ap, ◌∙◌}
use Rattle.std.proofs.lemmas.Slice.Eq.{bytes_eq-Decides}
use Rattle.definitions.specs.Values.{Text}
use Rattle.linker.proofs.linked_texts.LinkedTexts.is.Goals as goal

pub returns-in-Some : goal.returns-in-Some
returns-in-Some c e =
    sym c.text.ensures ∙ ap (option_map (λ (t : Bor Text). t.now)) c.in-Some.is ∙ ap Some ((bytes_eq-Decides c.in-Some.numbered.now c.args.text.now).0 (sym c.eq.ensures ∙ e))

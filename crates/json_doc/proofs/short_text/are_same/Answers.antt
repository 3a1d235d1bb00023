use Rattle.std.proofs.Common.{sym, ◌∙◌}
use Rattle.std.proofs.lemmas.Bool.{eqb-true}
use Rattle.json_doc.proofs.Words.{same_bytes}
use Rattle.json_doc.proofs.short_text.are_same.Goals as goal

pub returns : goal.returns
returns c = λ same.
    same_bytes c.args.first.now c.args.second.now c.told-first c.told-second c.fits-first c.fits-second
    (sym c.word_at.ensures ∙ c.if-word_at.false ∙ c.word_at-2.ensures)
    (sym c.word_at-3.ensures ∙ c.if-word_at-2.false ∙ c.word_at-4.ensures)
    (sym c.word_at-5.ensures ∙ eqb-true c.word_at-5.result c.word_at-6.result same ∙ c.word_at-6.ensures)

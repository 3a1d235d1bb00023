use Rattle.std.proofs.Common.{ap, sym, ◌∙◌}
use Rattle.std.proofs.lemmas.Result.{MatchResult-weaker, IfOk-weaker}
use Rattle.serde_json.specs.Read.{read}
use Rattle.definitions.specs.Texts.{value_or_bad_json}
use Rattle.json_doc.proofs.WholeTexts.{reading_of_text, reading_of_no_text}
use Rattle.json_doc.proofs.reading.read_with.Goals as goal

pub returns-in-Ok-clause-ok : goal.returns-in-Ok-clause-ok
returns-in-Ok-clause-ok c =
    IfOk-weaker c.doc_of_text.result _ _
    (λ d e. reading_of_text c.args.bytes.now c.in-Ok.ensures.1 ∙ ap (λ t. value_or_bad_json (read t)) (sym c.in-Ok.ensures.0) ∙ e)
    c.doc_of_text.ensures.ok

pub returns-in-Ok-clause-err : goal.returns-in-Ok-clause-err
returns-in-Ok-clause-err c =
    MatchResult-weaker c.doc_of_text.result c.doc_of_text.ensures.err (λ _ t. t)
    (λ f h other. reading_of_text c.args.bytes.now c.in-Ok.ensures.1 ∙ ap (λ t. value_or_bad_json (read t)) (sym c.in-Ok.ensures.0) ∙ h other)

pub returns-in-Err-clause-err : goal.returns-in-Err-clause-err
returns-in-Err-clause-err c other = reading_of_no_text c.args.bytes.now c.in-Err.ensures

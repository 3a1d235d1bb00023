use Rattle.std.proofs.Common.{Err, ap, sym, ◌∙◌, rules}
use Rattle.std.proofs.lemmas.Result.{MatchResult-weaker, IfOk-weaker}
use Rattle.definitions.specs.Texts.{value_or_bad_number, value_or_bad_json}
use Rattle.faults.specs.View.{fault_view}
use Rattle.json_doc.proofs.reading.read_by_value.Goals as goal

pub returns-in-Ok-clause-ok : goal.returns-in-Ok-clause-ok
returns-in-Ok-clause-ok c =
    IfOk-weaker c.doc_of.result _ _ (λ d e. ap value_or_bad_json c.in-Ok.ensures.ok ∙ ap value_or_bad_number e) c.doc_of.ensures.ok

pub returns-in-Ok-clause-err : goal.returns-in-Ok-clause-err
returns-in-Ok-clause-err c =
    MatchResult-weaker c.doc_of.result c.doc_of.ensures.err (λ _ t. t)
    (λ f h other. let p = h other in ap value_or_bad_json c.in-Ok.ensures.ok ∙ ap value_or_bad_number p.1 ∙ ap (λ g. Err (fault_view g)) (sym p.0))

pub returns-else-is_memory-clause-err : goal.returns-else-is_memory-clause-err
returns-else-is_memory-clause-err c other = ap value_or_bad_json (c.in-Err.ensures.err (search rules))

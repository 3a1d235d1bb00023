-- What is told of the text of an instance.
use Rattle.std.proofs.Common.{◌≡◌, ◌≢◌, ap, sym, subst, Ok, Err, List, Result}
use Rattle.definitions.specs.Answers.{answer}
use Rattle.definitions.specs.Applied.{Outcome}
use Rattle.definitions.specs.Faults as meaning
use Rattle.definitions.specs.Patterns.{has_match}
use Rattle.definitions.specs.Schemas.{Document}
use Rattle.definitions.specs.Texts.{parsed_value}
use Rattle.definitions.specs.Values.{Text, Value}
use Rattle.checks.specs.Judgements.{after}
use Rattle.evaluator.specs.Reports.{Gives, report_or_fault}
use Rattle.evaluator.specs.declared.report.Report.{Report}
use Rattle.faults.specs.declared.Fault.{Fault}
use Rattle.faults.specs.declared.Fault.TheVariants.{NoRoom}
use Rattle.faults.specs.View.{fault_view}
use Rattle.file_checks.specs.FileJudgements.{Tells, judgement_over}

given_is_told : (r : Result Report Fault) (a : Result Outcome meaning.Fault) → Gives r a → Tells r (report_or_fault a)
given_is_told (Ok r) a h = h
given_is_told (Err f) a h = λ is_found. ap report_or_fault (h is_found)

-- a text that is a value, and what is said of that
pub is_judged : (ds : List Document) (uri text : Text) (v : Value) (r : Result Report Fault) → parsed_value text ≡ Ok v → Gives r (answer has_match ds uri v)
    → Tells r (judgement_over ds uri text)
unfolding judgement_over
is_judged ds uri text v r read h =
    subst (Tells r) (ap (λ p. after p (λ x. report_or_fault (answer has_match ds uri x))) (sym read)) (given_is_told r (answer has_match ds uri v) h)

-- a text that is none
pub is_refused : (ds : List Document) (uri text : Text) (f : Fault) → (f ≢ NoRoom → parsed_value text ≡ Err (fault_view f)) → Tells (Err f) (judgement_over ds uri text)
unfolding judgement_over
is_refused ds uri text f h = λ is_found. ap (λ p. after p (λ x. report_or_fault (answer has_match ds uri x))) (h is_found)

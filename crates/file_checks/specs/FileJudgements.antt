-- What documents say of the text of an instance.
use Rattle.std.specs.Prelude.{◌≡◌, ◌≢◌, List, Result, Ok, Err}
use Rattle.definitions.specs.Answers.{answer}
use Rattle.definitions.specs.Patterns.{has_match}
use Rattle.definitions.specs.Schemas.{Document}
use Rattle.definitions.specs.Texts.{parsed_value}
use Rattle.definitions.specs.Values.{Text}
use Rattle.checks.specs.Judgements.{Judgement, after}
use Rattle.evaluator.specs.Reports.{is_valid, report_or_fault, report_text}
use Rattle.evaluator.specs.declared.report.Report.{Report}
use Rattle.faults.specs.View.{fault_view}
use Rattle.faults.specs.declared.Fault as code

-- the evaluation of the instance by the resource of this URI among these documents, or the fault of the text
unfoldable pub judgement_over : List Document → Text → Text → Judgement
judgement_over ds uri instance = after (parsed_value instance) (λ x. report_or_fault (answer has_match ds uri x))

-- the judgement is told, want of memory aside
abbrev pub Tells : Result Report code.Fault → Judgement → Type 0
Tells (Ok r) judgement = judgement ≡ Ok (is_valid r, report_text r)
Tells (Err f) judgement = f ≢ code.Fault.NoRoom → judgement ≡ Err (fault_view f)

-- What a report shows.
use Rattle.std.specs.Prelude.{◌≡◌, ◌≢◌, Bool, Result, Ok, Err, map, string_bytes}
use Rattle.definitions.specs.Values.{Text, Value}
use Rattle.definitions.specs.Faults.{Fault}
use Rattle.definitions.specs.Applied.{Outcome}
use Rattle.definitions.specs.Answers.{answer, answer_of, output_text}
use Rattle.definitions.specs.Limits.{limits}
use Rattle.definitions.specs.Patterns.{has_match}
use Rattle.output_texts.specs.Outputs.{counted_units, output_view, reported_units}
use Rattle.basic_output.specs.Pieces.{unit_text}
use Rattle.basic_output.specs.Units.{unit_texts}
use Rattle.output_texts.specs.declared.noted_units.NotedUnits.{NotedUnits}
use Rattle.output_texts.specs.declared.output.Output.{Output}
use Rattle.faults.specs.View.{fault_view}
use Rattle.faults.specs.declared.Fault as code
use Rattle.linker.specs.LinkedDocuments.{linked_documents, linked_uri}
use Rattle.linker.specs.declared.linked.Linked.{Linked}
use Rattle.evaluator.specs.declared.report.Report.{Report}

abbrev pub is_valid : Report → Bool
is_valid r = r.valid

abbrev pub report_text : Report → Text
report_text r = string_bytes r.text

-- whether the instance is valid, and the basic output
abbrev pub report_or_fault : Result Outcome Fault → Result (Bool × Text) Fault
report_or_fault (Ok o) = Ok (o.valid, output_text o)
report_or_fault (Err f) = Err f

-- what the linked resource's root says of the instance
abbrev pub linked_answer : Linked → Value → Result Outcome Fault
linked_answer l x = answer has_match (linked_documents l) (linked_uri l) x

-- the answer is given, want of memory aside
abbrev pub Gives : Result Report code.Fault → Result Outcome Fault → Type 0
Gives (Ok r) answer = report_or_fault answer ≡ Ok (is_valid r, report_text r)
Gives (Err f) answer = f ≢ code.Fault.NoRoom → answer ≡ Err (fault_view f)

-- .. before the text is put together
abbrev pub GivesOutput : Result Output code.Fault → Result Outcome Fault → Type 0
GivesOutput (Ok output) answer = report_or_fault answer ≡ Ok (output_view output)
GivesOutput (Err f) answer = f ≢ code.Fault.NoRoom → answer ≡ Err (fault_view f)

-- whether the outcome is valid, with its units, or the fault that it ends in
abbrev pub Judges : Result Bool code.Fault → NotedUnits → Outcome → Type 0
Judges (Ok valid) units o =
    (o.valid ≡ valid) × (unit_texts (counted_units valid units) ≡ map (unit_text valid) (reported_units o)) × (answer_of limits.applications o ≡ Ok o)
Judges (Err f) units o = f ≢ code.Fault.NoRoom → answer_of limits.applications o ≡ Err (fault_view f)

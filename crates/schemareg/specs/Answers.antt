-- How a check ends.
use Rattle.std.specs.Prelude.{◌≡◌, ◌≢◌, ◌⊎◌, ℕ, ◌++◌, ◌∷◌, [], List, Bool, true, false, Option, Result, Ok, Err, IfSome, IsOkAnd, ⊤}
use Rattle.definitions.specs.Bytes.{line_feed}
use Rattle.definitions.specs.Faults as meaning
use Rattle.definitions.specs.Texts.{parsed_value}
use Rattle.definitions.specs.Values.{Text}
use Rattle.checks.specs.Judgements.{Judgement, judgement, judgement_of, input_of, builds_patterns, builds_patterns_of, is_for_pattern}
use Rattle.faults.specs.View.{fault_view}
use Rattle.faults.specs.declared.Fault.TheVariants.{NoRoom}
use Rattle.command_line.specs.Calls.{Asked}
use Rattle.command_line.specs.Calls as call
use Rattle.serving.specs.Transfers.{Transfer}
use Rattle.serving.specs.Writing.{Writes, WritesSome}
use Rattle.service_forms.specs.declared.stop.Stop.{Stop}
use Rattle.service_forms.specs.declared.stop.Stop.TheVariants.{CannotRead, Refused, CannotWrite}

-- the status after a report
abbrev pub check_status : Bool → ℕ
check_status true = 0
check_status false = 1

abbrev pub status_after : Judgement → Result ℕ meaning.Fault
status_after (Ok report) = Ok (check_status report.0)
status_after (Err f) = Err f

-- how a check is judged, and whether patterns of its schema are built
pub record Check : Type 0 where
  pub judgement : Judgement
  pub has_patterns : Bool

-- of the text of the instance by the text of the schema, which stands under the URI
abbrev pub check_of_texts : Text → Text → Text → Check
check_of_texts uri schema instance = record {
  judgement = judgement uri (parsed_value schema) (parsed_value instance);
  has_patterns = builds_patterns uri (parsed_value schema);
}

-- of one text that holds all three
abbrev pub check_of_input : Text → Check
check_of_input bytes = record {
  judgement = judgement_of (input_of bytes);
  has_patterns = builds_patterns_of (input_of bytes);
}

-- what holds of the check that is asked for, where it is known what the files and standard input hold
abbrev pub OnCheck : (Text → Option Text) → Option Text → Asked → (Check → Type 0) → Type 0
OnCheck files bytes call.input P = IfSome bytes (λ b. P (check_of_input b))
OnCheck files bytes (call.check uri schema instance) P =
    IfSome (files schema) (λ s. IfSome (files instance) (λ i. P (check_of_texts uri s i)))
OnCheck files bytes _ P = ⊤

-- the output of a check as a line
abbrev pub report_line : Bool × Text → Text
report_line report = report.1 ++ line_feed ∷ []

-- The check ends as it was judged, with its output written as a line; or it refuses a pattern of the schema. Else something
-- that it reads or writes failed, or memory ran out. Nothing is written but a report, and only a broken write keeps a part of
-- one back
abbrev pub EndsBy : Check → List Transfer → Result ℕ Stop → List Transfer → Type 0
EndsBy check before (Ok status) after =
    (status_after check.judgement ≡ Ok status) × IsOkAnd check.judgement (λ report. Writes before (report_line report) after)
EndsBy check before (Err (Refused f)) after =
    (after ≡ before) × (f ≢ NoRoom → is_for_pattern (fault_view f) check.has_patterns ≡ false → check.judgement ≡ Err (fault_view f))
EndsBy check before (Err (CannotRead name)) after = after ≡ before
EndsBy check before (Err CannotWrite) after = IsOkAnd check.judgement (λ report. WritesSome before (report_line report) after)
EndsBy check before (Err _) after = ⊥

-- the status is that of the judgement, with its output written as a line; or it says that there is no report, of which at most
-- a first part is written then, up to a broken write
abbrev pub EndsWith : Check → List Transfer → ℕ → List Transfer → Type 0
EndsWith check before status after =
    ((status_after check.judgement ≡ Ok status) × IsOkAnd check.judgement (λ report. Writes before (report_line report) after))
    ⊎ ((status ≡ 2) × ((after ≡ before) ⊎ IsOkAnd check.judgement (λ report. WritesSome before (report_line report) after)))

-- a text is printed; or a first part of it, up to a broken write; or nothing, for want of memory
abbrev pub Prints : {T : Type 0} → List Transfer → Text → Result T Stop → List Transfer → Type 0
Prints before text (Ok x) after = Writes before text after
Prints before text (Err CannotWrite) after = WritesSome before text after
Prints before text (Err (Refused f)) after = (f ≡ NoRoom) × (after ≡ before)
Prints before text (Err _) after = ⊥

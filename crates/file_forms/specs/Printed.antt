-- What is printed of an instance.
use Rattle.std.specs.Prelude.{◌≡◌, ◌⊎◌, ◌++◌, ◌∷◌, [], ℕ, Bool, true, false, Option, Ok, codes}
use Rattle.definitions.specs.Bytes.{line_feed}
use Rattle.definitions.specs.Values.{Text}
use Rattle.checks.specs.Judgements.{Judgement}
use Rattle.command_line.specs.declared.call.Format.{Format}
use Rattle.command_line.specs.declared.call.Format.TheVariants as format
use Rattle.file_checks.specs.declared.tally.Verdict.{Verdict}
use Rattle.file_checks.specs.declared.tally.Verdict.TheVariants.{Valid, Invalid}
use Rattle.file_forms.specs.Refusals.{reason_text}
use Rattle.file_forms.specs.declared.trouble.Trouble.{Trouble}
use Rattle.plain_reports.specs.Commands.{refusal_command_text}
use Rattle.plain_reports.specs.JsonLines.{json_line_text, json_refusal_text}

abbrev pub verdict_by : Bool → Verdict
verdict_by true = Valid
verdict_by false = Invalid

-- as JSON the Basic output with the instance's path and line, as a line; else nothing of a valid instance. Where only what is
-- wrong is printed, nothing of a valid instance
pub record IsPrinted (form : Format) (quiet : Bool) (path : Text) (line : Option ℕ) (report : Bool × Text) (printed : Text) : Type 0 where
  pub as_json : form ≡ format.Json → quiet ≡ false → printed ≡ json_line_text path line report.1 ++ line_feed ∷ []
  pub wrong_as_json : form ≡ format.Json → report.0 ≡ false → printed ≡ json_line_text path line report.1 ++ line_feed ∷ []
  pub quietly : quiet ≡ true → report.0 ≡ true → printed ≡ []

-- an answer, by what the documents say of the instance
pub record IsAnswer (judgement : Judgement) (form : Format) (quiet : Bool) (path : Text) (line : Option ℕ) (verdict : Verdict) (printed : Text) : Type 0 where
  pub report : Bool × Text
  pub judged : judgement ≡ Ok report
  pub verdict_is : verdict ≡ verdict_by report.0
  pub is_printed : IsPrinted form quiet path line report printed

-- ---- a refusal
-- an annotation of the path, with the reason as its title
pub record IsAnnotation (path why printed : Text) : Type 0 where
  pub line : Option ℕ
  pub column : Option ℕ
  pub message : Text
  pub is : printed ≡ refusal_command_text path line column why message

-- what a format has of a trouble: a person is told it alone
abbrev pub IsRefusalBy : Format → Text → Option ℕ → Trouble → Text → Type 0
IsRefusalBy format.Text path line trouble printed = printed ≡ []
IsRefusalBy format.Json path line trouble printed = printed ≡ json_refusal_text path line (reason_text trouble) ++ line_feed ∷ []
IsRefusalBy format.Github path line trouble printed = IsAnnotation path (reason_text trouble) printed

-- .. that memory ran out
abbrev pub no_room_text : Format → Text
no_room_text format.Text = []
no_room_text format.Json = codes "{\"refused\":\"30 NoRoom\"}\n"
no_room_text format.Github = codes "::error::30 NoRoom\n"

abbrev pub IsPrintedRefusal : Format → Text → Option ℕ → Trouble → Text → Type 0
IsPrintedRefusal form path line trouble printed = IsRefusalBy form path line trouble printed ⊎ (printed ≡ no_room_text form)

-- .. behind what was printed before
pub record PrintsRefusal (form : Format) (path : Text) (line : Option ℕ) (trouble : Trouble) (before after : Text) : Type 0 where
  pub printed : Text
  pub behind : after ≡ before ++ printed
  pub is : IsPrintedRefusal form path line trouble printed

-- What was printed and told up to now, and the status.
use Rattle.std.specs.Prelude.{◌≡◌, ◌++◌, ℕ, Option, Result, Ok, Err, String, max, string_bytes}
use Rattle.std.specs.Global.{Global}
use Rattle.definitions.specs.Values.{Text}
use Rattle.file_checks.specs.Tallies.{status_of}
use Rattle.file_checks.specs.declared.tally.Tally.{Tally}
use Rattle.file_checks.specs.declared.tally.Verdict.{Verdict}
use Rattle.file_forms.specs.Accounts.{State, verdict_status}
use Rattle.command_line.specs.declared.call.Format.{Format}
use Rattle.file_forms.specs.Printed.{PrintsRefusal}
use Rattle.file_forms.specs.Refusals.{Tells}
use Rattle.file_forms.specs.declared.trouble.Trouble.{Trouble}

abbrev pub state_of : Text → Text → Tally → State
state_of printed told tally = record { printed = printed; told = told; status = status_of tally.invalid tally.refused }

-- an answer is printed, or a trouble told and printed, of what has this path and line, and either counted
abbrev pub IsToldOf : Format → Text → Option ℕ → Result (Verdict × String Global) Trouble → State → State → Type 0
IsToldOf form path line (Ok answer) before after =
    (after.printed ≡ before.printed ++ string_bytes answer.1) × (after.told ≡ before.told)
    × (after.status ≡ max before.status (verdict_status answer.0))
IsToldOf form path line (Err trouble) before after =
    PrintsRefusal form path line trouble before.printed after.printed × Tells trouble before.told after.told
    × (after.status ≡ max before.status 2)

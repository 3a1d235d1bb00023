-- Accounts: what came of each instance, and what is printed and told of it.
use Rattle.std.specs.Prelude.{◌≡◌, ◌++◌, ◌∷◌, [], ℕ, List, Option, map, max}
use Rattle.std.specs.List.{All, concat}
use Rattle.definitions.specs.Values.{Text}
use Rattle.file_checks.specs.declared.tally.Verdict.{Verdict}
use Rattle.file_checks.specs.declared.tally.Verdict.TheVariants.{Valid, Invalid, Refused}
use Rattle.file_forms.specs.Subjects.{Subject}

-- the subject, what came of it, and what is printed and told of it
pub record Account : Type 0 where
  pub subject : Subject
  pub verdict : Verdict
  pub printed : Text
  pub told : Text

abbrev pub verdict_status : Verdict → ℕ
verdict_status Valid = 0
verdict_status Invalid = 1
verdict_status Refused = 2

-- the status of the worst
abbrev pub status_of_all : List Account → ℕ
status_of_all [] = 0
status_of_all (a ∷ rest) = max (verdict_status a.verdict) (status_of_all rest)

-- all that was printed and told up to now, and the status
pub record State : Type 0 where
  pub printed : Text
  pub told : Text
  pub status : ℕ

-- there is an account of each of these subjects, in this order; nothing else is printed or told, and the worst gives the status
pub record Accounts (IsAccount : Account → Type 0) (subjects : List Subject) (before after : State) : Type 0 where
  pub accounts : List Account
  pub named : map (λ a. a.subject) accounts ≡ subjects
  pub each : All IsAccount accounts
  pub printed : after.printed ≡ before.printed ++ concat (map (λ a. a.printed) accounts)
  pub told : after.told ≡ before.told ++ concat (map (λ a. a.told) accounts)
  pub status : after.status ≡ max before.status (status_of_all accounts)

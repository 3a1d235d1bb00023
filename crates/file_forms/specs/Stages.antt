-- How far a run over instances has come.
use Rattle.std.specs.Prelude.{◌≡◌, List}
use Rattle.definitions.specs.Values.{Text}
use Rattle.file_forms.specs.Accounts.{Accounts, State}
use Rattle.file_forms.specs.Judged.{IsJudged}
use Rattle.file_forms.specs.Subjects.{Subject}
use Rattle.file_forms.specs.Tellings.{state_of}
use Rattle.file_forms.specs.declared.answering.Printing.{Printing}
use Rattle.file_forms.specs.declared.run.Run.{Run}
use Rattle.linker.specs.declared.linked.Linked.{Linked}

-- what the instances are judged by, what is printed of each, and all that was printed and told up to now, with the status
pub record Stage : Type 0 where
  pub linked : Linked
  pub printing : Printing
  pub state : State

abbrev pub stage_of : Run → Linked → Text → Text → Stage
stage_of run linked printed told = record { linked = linked; printing = run.printing; state = state_of printed told run.tally }

-- instances of which this holds are accounted for, in order, and the next are judged and printed as these
pub record GoesOver (Of : List Subject → Type 0) (before after : Stage) : Type 0 where
  pub subjects : List Subject
  pub are : Of subjects
  pub accounts : Accounts (IsJudged before.linked before.printing) subjects before.state after.state
  pub linked : after.linked ≡ before.linked
  pub printing : after.printing ≡ before.printing

-- What an account of an instance says, by the documents that judge it.
use Rattle.std.specs.Prelude.{◌≡◌, ◌≢◌, ◌⊎◌, [], ℕ, Bool, List, Option, Some, None, Err, Ok, Result, String, string_bytes}
use Rattle.std.specs.Global.{Global}
use Rattle.definition_laws.specs.Reaching.{HaveDistinctResources}
use Rattle.definitions.specs.Reach.{reach}
use Rattle.definitions.specs.Schemas.{Document}
use Rattle.definitions.specs.Values.{Text}
use Rattle.checks.specs.Judgements.{Judgement}
use Rattle.command_line.specs.declared.call.Format.{Format}
use Rattle.faults.specs.View.{fault_view}
use Rattle.faults.specs.declared.Fault as code
use Rattle.file_checks.specs.FileJudgements.{judgement_over}
use Rattle.file_checks.specs.declared.tally.Verdict.{Verdict}
use Rattle.file_checks.specs.declared.tally.Verdict.TheVariants.{Refused}
use Rattle.file_forms.specs.Accounts.{Account, Accounts, State}
use Rattle.file_forms.specs.Printed.{IsAnswer, IsPrintedRefusal}
use Rattle.file_forms.specs.Refusals.{IsRefusal, IsTold, IsUnread}
use Rattle.file_forms.specs.Subjects.{Subject}
use Rattle.file_forms.specs.declared.answering.Printing.{Printing}
use Rattle.file_forms.specs.declared.trouble.Trouble.{Trouble}
use Rattle.linker.specs.LinkedDocuments.{linked_documents, linked_uri}
use Rattle.linker.specs.declared.linked.Linked.{Linked}

-- the documents, the URI of a resource of theirs, and what is printed of each instance
pub record Judge : Type 0 where
  pub documents : List Document
  pub uri : Text
  pub format : Format
  pub quiet : Bool

abbrev pub judgement_by : Judge → Text → Judgement
judgement_by judge text = judgement_over judge.documents judge.uri text

-- a fault is the judgement's, want of memory aside
abbrev pub IsFaultOf : Judgement → code.Fault → Type 0
IsFaultOf judgement fault = fault ≢ code.Fault.NoRoom → judgement ≡ Err (fault_view fault)

-- ---- an account
-- of an answer
pub record IsAnswered (judge : Judge) (text : Text) (a : Account) : Type 0 where
  pub answer : IsAnswer (judgement_by judge text) judge.format judge.quiet a.subject.path a.subject.line a.verdict a.printed
  pub untold : a.told ≡ []

-- of a trouble
pub record IsTroubled (form : Format) (trouble : Trouble) (a : Account) : Type 0 where
  pub refused : a.verdict ≡ Refused
  pub printed : IsPrintedRefusal form a.subject.path a.subject.line trouble a.printed
  pub told : IsTold trouble a.told

-- of a refusal, with the judgement's fault
pub record IsRefused (judge : Judge) (text : Text) (a : Account) : Type 0 where
  pub fault : code.Fault
  pub judged : IsFaultOf (judgement_by judge text) fault
  pub trouble : Trouble
  pub is : IsRefusal a.subject.path a.subject.line fault trouble
  pub troubled : IsTroubled judge.format trouble a

-- of what can't be read
pub record IsUnreadable (form : Format) (a : Account) : Type 0 where
  pub trouble : Trouble
  pub is : IsUnread a.subject.path trouble
  pub troubled : IsTroubled form trouble a

abbrev pub IsAccountOf : Judge → Account → Option Text → Type 0
IsAccountOf judge a None = IsUnreadable judge.format a
IsAccountOf judge a (Some text) = IsAnswered judge text a ⊎ IsRefused judge text a

abbrev pub IsAccount : Judge → Account → Type 0
IsAccount judge a = IsAccountOf judge a a.subject.text

-- ---- by a linked resource
-- what was linked is what these documents' resource reaches
pub record IsLinkedAmong (documents : List Document) (linked : Linked) : Type 0 where
  pub distinct : HaveDistinctResources documents
  pub reached : linked_documents linked ≡ reach documents (linked_uri linked)

abbrev pub judge_of : List Document → Linked → Printing → Judge
judge_of documents linked printing = record { documents = documents; uri = linked_uri linked; format = printing.format; quiet = printing.quiet }

-- over whatever documents it was linked among
abbrev pub ByLinked : Linked → Printing → (Judge → Type 0) → Type 0
ByLinked linked printing P = (documents : List Document) → IsLinkedAmong documents linked → P (judge_of documents linked printing)

abbrev pub IsJudged : Linked → Printing → Account → Type 0
IsJudged linked printing a = ByLinked linked printing (λ judge. IsAccount judge a)

-- what came of an instance, and what is printed of it; or the judgement's fault
abbrev pub IsVerdict : Judge → Text → Option ℕ → Text → Result (Verdict × String Global) code.Fault → Type 0
IsVerdict judge path line text (Ok answer) = IsAnswer (judgement_by judge text) judge.format judge.quiet path line answer.0 (string_bytes answer.1)
IsVerdict judge path line text (Err fault) = IsFaultOf (judgement_by judge text) fault

-- .. as a trouble of the instance's
pub record IsRefusedBy (judge : Judge) (path : Text) (line : Option ℕ) (text : Text) (trouble : Trouble) : Type 0 where
  pub fault : code.Fault
  pub judged : IsFaultOf (judgement_by judge text) fault
  pub is : IsRefusal path line fault trouble

abbrev pub IsAnswerOf : Judge → Text → Option ℕ → Text → Result (Verdict × String Global) Trouble → Type 0
IsAnswerOf judge path line text (Ok answer) = IsVerdict judge path line text (Ok answer)
IsAnswerOf judge path line text (Err trouble) = IsRefusedBy judge path line text trouble

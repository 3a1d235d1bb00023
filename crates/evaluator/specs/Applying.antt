-- What the contracts of an evaluation under way say.
use Rattle.std.specs.Prelude.{◌≡◌, ◌≢◌, ℕ, Bool, List, Result, Some, Contains, IfErr, IfOk, OnOk}
use Rattle.std.specs.List.{list_all}
use Rattle.definitions.specs.Values.{Text, Value, get}
use Rattle.definitions.specs.Applied.{Application, Outcome, Part}
use Rattle.definitions.specs.Keywords.{Meaning}
use Rattle.definitions.specs.Outcomes.{Use, object_outcome}
use Rattle.faults.specs.declared.Fault as code
use Rattle.json_doc.specs.Docs.{value}
use Rattle.json_doc.specs.declared.doc.Doc.{Doc}
use Rattle.linker.specs.declared.linked.Linked.{Linked}
use Rattle.keyword_plans.specs.ObjectApplications.{linked_rules}
use Rattle.applicators.specs.Subjects.{subject_value}
use Rattle.applicators.specs.declared.planned.Planned.{Planned}
use Rattle.applicators.specs.declared.subject.Subject.{Subject}
use Rattle.evaluation_context.specs.Frames.{context_view}
use Rattle.keywords.specs.Rows.{row_of}
use Rattle.keywords.specs.declared.keyword.Keyword.{Keyword}
use Rattle.evaluator.specs.Findings.{FindsAll, Outcomes}
use Rattle.evaluation_log.specs.Logs.{log_view}
use Rattle.evaluation_log.specs.Notes.{IsOver, Notes, notes_of_both, outcome_notes, part_notes, parts_notes, uses_notes}
use Rattle.evaluator.specs.Rounds.{IsAt, IsKnown, Knows, indexes_since, linked_outcome, names_since, part_outcomes, two_uses, use_there, uses_since}
use Rattle.evaluator.specs.declared.applied.Applied.{Applied}
use Rattle.evaluator.specs.declared.applying.Evaluation.{Evaluation}
use Rattle.evaluator.specs.declared.siblings.Siblings.{Siblings}
use Rattle.evaluator.specs.declared.halt.Halt.{Halt}
use Rattle.evaluator.specs.declared.halt.Halt.TheVariants.{Costly, NoRoom}
use Rattle.evaluator.specs.declared.schema_use.SchemaUse.{SchemaUse}

-- it is this application of the schema to the subject, where the evaluation stands
abbrev pub Applies : Evaluation → Doc → Subject → Application → Type 0
Applies e schema subject a = IsAt e.linked.now (context_view e.context) (value schema) (subject_value subject) a

-- it is this application of the schema to the whole instance
abbrev pub AppliesToWhole : Evaluation → Doc → Doc → Application → Type 0
AppliesToWhole e schema instance a = IsAt e.linked.now (context_view e.context) (value schema) (value instance) a

-- it is the application of what is applied here
abbrev pub IsApplicationOf : Evaluation → SchemaUse → Application → Type 0
IsApplicationOf e h a = Applies e h.present.now.schema.now h.subject a

-- the evaluation noted this too
abbrev pub Adds : Evaluation → Evaluation → Notes → Type 0
Adds older newer n = log_view newer.log ≡ notes_of_both (log_view older.log) n

-- the fault of an evaluation that halts so
abbrev pub halt_fault : Halt → code.Fault
halt_fault Costly = code.Fault.Costly
halt_fault NoRoom = code.Fault.NoRoom

-- want of memory aside, it halts since this too would be more applications than there may be
abbrev pub IsCostly : Halt → Evaluation → Notes → Type 0
IsCostly h older n = h ≢ NoRoom → (h ≡ Costly) × IsOver (log_view older.log) n

-- the schemas that the keyword of this name applies are all linked
abbrev pub AreKnown : Linked → Text → Application → List Planned → Type 0
AreKnown l k a ps = (p : Planned) → Contains ps p → IsKnown l k a p

-- of a schema object, by the linked documents, where so many applications may nest in it
abbrev pub linked_object_outcome : Linked → ℕ → Application → Outcome
linked_object_outcome l left a = object_outcome (linked_rules l) (linked_outcome l left) a

-- ---- what an evaluation comes to
-- the linked documents stay, and unless it halts, so does where it stands
pub record Stays {A : Type 0} (older newer : Evaluation) (r : Result A Halt) : Type 0 where
  pub linked : newer.linked ≡ older.linked
  pub back : OnOk r (context_view newer.context ≡ context_view older.context)

-- nothing more is noted, and it stands where it stood
pub record IsUntouched (older newer : Evaluation) : Type 0 where
  pub linked : newer.linked ≡ older.linked
  pub context : newer.context ≡ older.context
  pub log : newer.log ≡ older.log

-- it finds this, and notes that; or it halts since that would be more applications than there may be
pub record EndsWith {A : Type 0} (older newer : Evaluation) (r : Result A Halt) (Finds : A → Type 0) (notes : Notes) : Type 0 where
  pub found : IfOk r Finds
  pub noted : OnOk r (Adds older newer notes)
  pub err : IfErr r (λ h. IsCostly h older notes)

-- whether an application passes
abbrev pub HasOutcome : Evaluation → Evaluation → Result Bool Halt → Outcome → Type 0
HasOutcome older newer r o = EndsWith older newer r (λ b. b ≡ o.valid) (outcome_notes o)

-- whether all uses of keywords of an application's schema pass
abbrev pub HasUses : Evaluation → Evaluation → Result Bool Halt → Application → List Use → Type 0
HasUses older newer r a us = EndsWith older newer r (λ b. b ≡ list_all (λ u. u.passes) us) (uses_notes a us)

-- whether what a keyword of this meaning applied to a part of the instance passes
abbrev pub HasPart : Evaluation → Evaluation → Result Bool Halt → Meaning → Part × Outcome → Type 0
HasPart older newer r meaning e = EndsWith older newer r (λ b. b ≡ e.1.valid) (part_notes meaning e)

-- how much passes of all that it applied
abbrev pub HasParts : Evaluation → Evaluation → Result Applied Halt → Meaning → Outcomes → Type 0
HasParts older newer r meaning os = EndsWith older newer r (λ f. FindsAll f os) (parts_notes meaning os)

-- ---- a keyword that is used
-- it has this value in the schema that is applied here, and it is known what the keywords beside said
pub record IsUsed (e : Evaluation) (h : SchemaUse) (keyword : Keyword) (v : Value) (siblings : Siblings) (left : ℕ) (a : Application) : Type 0 where
  pub schema_use : IsApplicationOf e h a
  pub knows : Knows e.linked.now left a (row_of keyword).meaning siblings
  pub valued : get (row_of keyword).name a.schema.value ≡ Some v

-- its use, by what was evaluated since the schema object was entered
abbrev pub use_now : Evaluation → SchemaUse → Keyword → Value → ℕ → Application → Use
use_now e h keyword v left a = use_there e.linked.now left a keyword (names_since h.before (log_view e.log)) (indexes_since h.before (log_view e.log)) v

-- its uses, where the schema has it
abbrev pub uses_now : Evaluation → SchemaUse → Keyword → ℕ → Application → List Use
uses_now e h keyword left a = uses_since e.linked.now left a keyword h.before (log_view e.log)

-- and those of another keyword after it
abbrev pub two_uses_now : Evaluation → SchemaUse → Keyword → Keyword → ℕ → Application → List Use
two_uses_now e h first second left a = two_uses e.linked.now left a first second h.before (log_view e.log)

-- these are the applications of a use of the keyword, and their schemas are all linked
pub record IsPlan (l : Linked) (left : ℕ) (a : Application) (keyword : Keyword) (u : Use) (ps : List Planned) : Type 0 where
  pub known : AreKnown l (row_of keyword).name a ps
  pub outcomes : part_outcomes l left (row_of keyword).name a ps ≡ u.outcomes

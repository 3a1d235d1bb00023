-- Laws of the answer, and of the report of it.
use Rattle.std.proofs.Common.{◌≡◌, ◌≢◌, ◌<◌, ◌≤◌, ℕ, arith, List, [], Bool, ◌&&◌, true, false, Some, Ok, Err, refl, subst, sym, ap, ap₂, ◌∙◌, map, is_some, Result, IfOk, IfErr, OnOk}
use Rattle.std.proofs.lemmas.Bool.{le-ltb}
use Rattle.std.proofs.lemmas.Option.{same_Some}
use Rattle.definitions.specs.Values.{Value, same_text}
use Rattle.definitions.specs.Faults as meaning
use Rattle.faults.specs.declared.Fault.{Fault}
use Rattle.evaluator.specs.declared.halt.Halt.{Halt}
use Rattle.faults.specs.View.{fault_view}
use Rattle.definitions.specs.Faults.{costly, loop, deep}
use Rattle.definitions.specs.Reach.{missing_references, reach}
use Rattle.definitions.specs.Schemas.{Document, Schema, is_root}
use Rattle.definition_laws.specs.Reaching.{HaveDistinctResources}
use Rattle.definition_laws.proofs.ReachedTables.{reach_is_enough}
use Rattle.definitions.specs.Targets.{resource_root}
use Rattle.definitions.specs.Patterns.{has_match}
use Rattle.definitions.specs.Applied.{Outcome}
use Rattle.definitions.specs.Answers.{answer, answer_of, answer_from, first_application, output_text}
use Rattle.definitions.specs.Limits.{limits}
use Rattle.definition_laws.proofs.Membership.{nothing_in, found_there}
use Rattle.output_texts.specs.Outputs as output
use Rattle.basic_output.specs.Pieces.{unit_text}
use Rattle.basic_output.specs.Units.{unit_texts}
use Rattle.output_texts.specs.declared.output.Output.{Output}
use Rattle.linker.specs.LinkedDocuments.{linked_documents, linked_schemas, linked_uri}
use Rattle.linker.specs.declared.linked.Linked.{Linked}
use Rattle.keyword_plans.specs.ObjectApplications.{linked_rules}
use Rattle.evaluation_context.specs.Frames.{Frame, frame_standing}
use Rattle.evaluation_context.specs.Standings.{application_at}
use Rattle.evaluation_log.specs.Logs.{log_view}
use Rattle.evaluation_log.specs.Notes.{IsOver, Notes, no_notes, notes_of_both, outcome_notes}
use Rattle.evaluator.specs.declared.report.Report.{Report}
use Rattle.evaluator.specs.Reports.{Gives, GivesOutput, is_valid, report_or_fault, report_text}
use Rattle.evaluator.specs.Roots.{StandsAtRoot}
use Rattle.evaluator.specs.Rounds.{IsAt, linked_outcome}
use Rattle.evaluation_log.specs.declared.log.Log.{Log}
use Rattle.evaluation_log.proofs.LogLaws.{nothing_added}

-- ---- the answer of an outcome
pub answer_loop : (most : ℕ) (o : Outcome) → o.count ≤ most → o.looped ≡ true → answer_of most o ≡ Err loop
answer_loop most o h l = rw (le-ltb most o.count h, l) refl

pub answer_deep : (most : ℕ) (o : Outcome) → o.count ≤ most → o.looped ≡ false → o.deep ≡ true → answer_of most o ≡ Err deep
answer_deep most o h l d = rw (le-ltb most o.count h, l, d) refl

pub answer_made : (most : ℕ) (o : Outcome) → o.count ≤ most → o.looped ≡ false → o.deep ≡ false → answer_of most o ≡ Ok o
answer_made most o h l d = rw (le-ltb most o.count h, l, d) refl

-- ---- the first application
pub first_outcome : (l : Linked) (s : Schema) (x : Value) → resource_root (linked_schemas l) (linked_uri l) ≡ Some s
    → answer has_match (linked_documents l) (linked_uri l) x ≡ answer_of 100000 (linked_outcome l 1000 (first_application s x))
first_outcome l s x e = ap (answer_from limits (linked_rules l) x) e

pub first_is_at : (l : Linked) (f : Frame) (s : Schema) (x : Value) → resource_root (linked_schemas l) (linked_uri l) ≡ Some s
    → application_at (frame_standing f) s.value x ≡ first_application s x → IsAt l f s.value x (first_application s x)
first_is_at l f s x e there = record {
  there = sym there;
  inside = (found_there (λ t. same_text (linked_uri l) t.resource && is_root t) (linked_schemas l) s e).0;
  scope = λ uri c. absurd (nothing_in uri c);
}

pub stands_at_root : (l : Linked) (f : Frame) (s : Value) (root : Schema) → resource_root (linked_schemas l) (linked_uri l) ≡ Some root → root.value ≡ s
    → ((x : Value) → application_at (frame_standing f) s x ≡ first_application root x) → StandsAtRoot l f s
stands_at_root l f s root e v there = record {
  found = ap is_some e;
  schema = λ r e'. subst (λ (t : Schema). t.value ≡ s) (same_Some root r (sym e ∙ e')) v;
  there = λ r x e'. there x ∙ ap (λ t. first_application t x) (same_Some root r (sym e ∙ e'));
}

pub is_at_root : (l : Linked) (f : Frame) (s x : Value) (root : Schema) → StandsAtRoot l f s → resource_root (linked_schemas l) (linked_uri l) ≡ Some root
    → IsAt l f s x (first_application root x)
is_at_root l f s x root stands e =
    subst (λ v. IsAt l f v x (first_application root x)) (stands.schema root e)
    (first_is_at l f root x e (ap (λ v. application_at (frame_standing f) v x) (stands.schema root e) ∙ stands.there root x e))

-- ---- what was noted from nothing on
pub noted_first : (r : Result Bool Halt) (n older : Notes) (o : Outcome) → older ≡ no_notes → OnOk r (n ≡ notes_of_both older (outcome_notes o)) → OnOk r (n ≡ outcome_notes o)
noted_first (Ok f) n older o e h = h ∙ ap (λ m. notes_of_both m (outcome_notes o)) e ∙ nothing_added (outcome_notes o)
noted_first (Err f) n older o e h = tt

pub costly_first : (r : Result Bool Halt) (older : Notes) (o : Outcome) → older ≡ no_notes → IfErr r (λ f. f ≢ Halt.NoRoom → (f ≡ Halt.Costly) × IsOver older (outcome_notes o))
    → IfErr r (λ f. f ≢ Halt.NoRoom → (f ≡ Halt.Costly) × (100000 < o.count))
costly_first (Ok b) older o e h = tt
costly_first (Err f) older o e h =
    λ other. let costly = h other in (costly.0, let c : older.tally.count ≡ 0 = ap (λ (n : Notes). n.tally.count) e in omega (arith, costly.1, c))

-- ---- what was counted
pub counted : (l : Log) (o : Outcome) → log_view l ≡ outcome_notes o → l.count ≡ o.count
unfolding log_view
counted l o e = ap (λ (n : Notes). n.tally.count) e

pub within_most : (l : Log) (o : Outcome) → log_view l ≡ outcome_notes o → o.count ≤ 100000
within_most l o e = omega (arith, counted l o e, l.within)

pub looped_so : (l : Log) (o : Outcome) → log_view l ≡ outcome_notes o → o.looped ≡ l.looped
unfolding log_view
looped_so l o e = sym (ap (λ (n : Notes). n.tally.looped) e)

pub deep_so : (l : Log) (o : Outcome) → log_view l ≡ outcome_notes o → o.deep ≡ l.deep
unfolding log_view
deep_so l o e = sym (ap (λ (n : Notes). n.tally.deep) e)

pub counted_so : (l : Log) (o : Outcome) (valid : Bool) → log_view l ≡ outcome_notes o → o.valid ≡ valid
    → unit_texts (output.counted_units valid l.units.value) ≡ map (unit_text valid) (output.reported_units o)
unfolding log_view
counted_so l o true e v = rw v (ap (λ (n : Notes). n.annotations) e)
counted_so l o false e v = rw v (ap (λ (n : Notes). n.errors) e)

-- ---- what gives an answer
pub gives_same : (e : Result Report Fault) {a b : Result Outcome meaning.Fault} → b ≡ a → Gives e a → Gives e b
gives_same e is g = subst (λ a. Gives e a) (sym is) g

pub gives_ok : (e : Result Report Fault) (a : Result Outcome meaning.Fault) → Gives e a → IfOk e (λ r. report_or_fault a ≡ Ok (is_valid r, report_text r))
gives_ok (Ok r) a g = g
gives_ok (Err f) a g = tt

pub gives_err : (e : Result Report Fault) (a : Result Outcome meaning.Fault) → Gives e a → IfErr e (λ f. f ≢ Fault.NoRoom → a ≡ Err (fault_view f))
gives_err (Ok r) a g = tt
gives_err (Err f) a g = g

pub gives_made : (r : Result Report Fault) (o : Outcome) (valid : Bool) → valid ≡ o.valid → IfOk r (λ r. is_valid r ≡ valid) → IfOk r (λ r. output_text o ≡ report_text r)
    → IfErr r (λ f. f ≡ Fault.NoRoom) → Gives r (Ok o)
gives_made (Ok r) o valid same v t e = ap₂ (λ b text. Ok (b, text)) (sym (v ∙ same)) t
gives_made (Err f) o valid same v t e = λ other. absurd (other e)

-- ---- .. before the text is put together
pub output_same : (e : Result Output Fault) {a b : Result Outcome meaning.Fault} → b ≡ a → GivesOutput e a → GivesOutput e b
output_same e is g = subst (λ a. GivesOutput e a) (sym is) g

pub output_ok : (e : Result Output Fault) (a : Result Outcome meaning.Fault) → GivesOutput e a → IfOk e (λ o. report_or_fault a ≡ Ok (output.output_view o))
output_ok (Ok o) a g = g
output_ok (Err f) a g = tt

pub output_err : (e : Result Output Fault) (a : Result Outcome meaning.Fault) → GivesOutput e a → IfErr e (λ f. f ≢ Fault.NoRoom → a ≡ Err (fault_view f))
output_err (Ok o) a g = tt
output_err (Err f) a g = g

-- .. and once it is
pub gives_text : (r : Result Report Fault) (a : Result Outcome meaning.Fault) (o : Output) → IfOk r (λ r. (is_valid r, report_text r) ≡ output.output_view o)
    → IfErr r (λ f. f ≡ Fault.NoRoom) → report_or_fault a ≡ Ok (output.output_view o) → Gives r a
gives_text (Ok r) a o shown e given = given ∙ ap Ok (sym shown)
gives_text (Err f) a o shown e given = λ other. absurd (other e)

-- ---- what isn't reached
none_missing : (l : Linked) → missing_references (linked_documents l) ≡ []
unfolding linked_documents
none_missing l = l.whole

pub unreached_changes_nothing : (l : Linked) (G : List Document) (x : Value) → HaveDistinctResources G → linked_documents l ≡ reach G (linked_uri l)
    → answer has_match G (linked_uri l) x ≡ answer has_match (linked_documents l) (linked_uri l) x
unreached_changes_nothing l G x distinct same =
    reach_is_enough has_match G (linked_uri l) x distinct (ap missing_references (sym same) ∙ none_missing l) ∙ ap (λ ds. answer has_match ds (linked_uri l) x) (sym same)

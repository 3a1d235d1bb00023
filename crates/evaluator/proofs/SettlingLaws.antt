-- Laws of what a keyword itself notes, once its schemas were applied.
use Rattle.std.proofs.Common.{◌≡◌, ℕ, List, [], ◌∷◌, ◌++◌, map, if◌then◌else◌, Bool, true, false, Contains, refl, sym, ap, ◌∙◌, append-nil, subst, flat_map, arith}
use Rattle.std.proofs.Math.Bool.{and-true, or-false}
use Rattle.std.proofs.lemmas.List.{map-append}
use Rattle.std.specs.Prelude.{Option, Some, None, codes}
use Rattle.std.specs.List.{list_all}
use Rattle.definitions.specs.Values.{Text, Value, string, get}
use Rattle.definitions.specs.Keywords.{Meaning}
use Rattle.definitions.specs.Applied.{Application, Outcome, OutputUnit, Part, keyword_applications}
use Rattle.definitions.specs.Evaluated.{may_annotate, once, outcomes_that_fail, outcomes_that_pass}
use Rattle.definitions.specs.Outcomes.{Use, own_annotation, unit}
use Rattle.definition_laws.proofs.Evaluations.{failing_nothing}
use Rattle.definition_laws.proofs.AppliedSchemas.{applied_schemas_are_known}
use Rattle.definition_laws.proofs.Occurrences.{contains_from_in, in_from_contains, into_map}
use Rattle.definition_laws.proofs.Reports.{failing_annotates_nothing, passing_reports_no_error}
use Rattle.basic_output.specs.Pieces.{unit_text}
use Rattle.linker.specs.LinkedDocuments.{linked_documents, linked_schemas}
use Rattle.linker.specs.declared.linked.Linked.{Linked}
use Rattle.applicators.specs.Annotations.{annotation_names}
use Rattle.keyword_plans.specs.LinkedResources.{HasResources}
use Rattle.applicators.specs.Plans.{planned_view}
use Rattle.keywords.specs.Rows.{row_of}
use Rattle.keywords.proofs.Grouped.{row_in}
use Rattle.keyword_plans.specs.ObjectApplications.{linked_rules}
use Rattle.keywords.specs.declared.keyword.Keyword.{Keyword}
use Rattle.keywords.specs.declared.keyword.Keyword.TheVariants.{PatternProperties}
use Rattle.applicators.specs.declared.planned.Planned.{Planned}
use Rattle.evaluation_context.specs.Frames.{Frame, frame_standing}
use Rattle.evaluation_context.specs.Standings.{at_keyword, standing_of, unit_there}
use Rattle.evaluator.specs.Applying.{IsPlan}
use Rattle.evaluator.specs.Findings.{FindsAll, passing_first}
use Rattle.evaluation_log.specs.Tallies.{Tally, parts_tally, uses_tally}
use Rattle.evaluator.specs.declared.applied.Applied.{Applied}
use Rattle.evaluator.specs.declared.siblings.Siblings.{Siblings}
use Rattle.evaluation_log.specs.Notes.{IsOver, Notes, annotation_texts, error_texts, parts_notes, uses_notes, visible_notes}
use Rattle.evaluator.specs.Rounds.{IsAt, IsAtKeyword, IsKnown, IsUnder, Knows, linked_outcome, part_outcomes, use_there}
use Rattle.evaluation_log.proofs.LogLaws.{mapped_all, same_notes, same_tallies}
use Rattle.evaluator.proofs.PartLaws.{annotations_of_passed, errors_of_failed, indexes_of_use, names_of_use}

-- the texts of units, where they are seen
shown_texts : (b : Bool) (ts : List Text) (us : List OutputUnit) → ts ≡ annotation_texts us → (if b then ts else []) ≡ annotation_texts (if b then us else [])
shown_texts true ts us e = e
shown_texts false ts us e = refl

-- the applications of one use
tally_of_one : (u : Use) → parts_tally u.outcomes ≡ uses_tally (u ∷ [])
tally_of_one u = same_tallies (omega arith) (sym (or-false _)) (sym (or-false _))

module _ (l : Linked) (left : ℕ) (a : Application) (keyword : Keyword) (names : List Text) (indexes : List ℕ) (v : Value) where
  abbrev this : Use
  this = use_there l left a keyword names indexes v

  abbrev noted : Notes
  noted = visible_notes (row_of keyword).meaning (parts_notes (row_of keyword).meaning this.outcomes)

  pub names_settled : noted.names ≡ this.names
  names_settled = names_of_use (linked_rules l) (linked_outcome l left) (failing_nothing (linked_rules l) left) names indexes a (row_of keyword).name (row_of keyword).meaning v

  pub indexes_settled : noted.indexes ≡ this.indexes
  indexes_settled = indexes_of_use (linked_rules l) (linked_outcome l left) (failing_nothing (linked_rules l) left) names indexes a (row_of keyword).name (row_of keyword).meaning v

  annotations_settled : noted.annotations ≡ annotation_texts (if this.annotates then flat_map (λ o. o.1.annotations) (outcomes_that_pass this.outcomes) else [])
  annotations_settled =
      shown_texts (may_annotate (row_of keyword).meaning) _ _
      (sym (mapped_all (unit_text true) (λ (o : Part × Outcome). o.1.annotations) this.outcomes)
      ∙ ap annotation_texts (annotations_of_passed (linked_outcome l left) (failing_annotates_nothing (linked_rules l) left) (keyword_applications (linked_rules l) (linked_outcome l left) names indexes a (row_of keyword).name (row_of keyword).meaning v)))

  errors_settled : noted.errors ≡ error_texts (flat_map (λ o. o.1.errors) (outcomes_that_fail this.outcomes))
  errors_settled =
      sym (mapped_all (unit_text false) (λ (o : Part × Outcome). o.1.errors) this.outcomes)
      ∙ ap error_texts (errors_of_failed (linked_outcome l left) (passing_reports_no_error (linked_rules l) left) (keyword_applications (linked_rules l) (linked_outcome l left) names indexes a (row_of keyword).name (row_of keyword).meaning v))

  pub passing_settled : true ≡ this.passes
      → record noted { errors = []; annotations = annotation_texts (own_annotation a this this.annotation) ++ noted.annotations } ≡ uses_notes a (this ∷ [])
  passing_settled e =
      same_notes (rw (← e) refl) (rw (← e) (ap (λ ts. annotation_texts (own_annotation a this this.annotation) ++ ts) annotations_settled ∙ sym (map-append (unit_text true) (own_annotation a this this.annotation) _) ∙ sym (append-nil _)))
      (names_settled ∙ sym (append-nil this.names)) (indexes_settled ∙ sym (append-nil this.indexes)) (tally_of_one this)

  pub failing_settled : false ≡ this.passes
      → record noted { errors = unit_text false (unit a (row_of keyword).name (string ((row_of keyword).name ++ codes " is not met"))) ∷ noted.errors; annotations = [] } ≡ uses_notes a (this ∷ [])
  failing_settled e =
      same_notes
      (rw (← e) (ap (λ ts. unit_text false (unit a (row_of keyword).name (string ((row_of keyword).name ++ codes " is not met"))) ∷ ts) (errors_settled ∙ sym (append-nil _))))
      (rw (← e) refl) (names_settled ∙ sym (append-nil this.names)) (indexes_settled ∙ sym (append-nil this.indexes)) (tally_of_one this)

-- ---- what it says itself
pub unit_under : (f g : Frame) (k : Text) (a : Application) (v : Value) → g ≡ f → IsUnder f k a → unit_there (frame_standing g) v ≡ unit a k v
unit_under f g k a v e under = ap (λ h. unit_there (frame_standing h) v) e ∙ ap (λ st. unit_there st v) under

pub own_none : (a : Application) (u : Use) (ts : List Text) → None ≡ u.annotation → ts ≡ annotation_texts (own_annotation a u u.annotation) ++ ts
own_none a u ts e = rw (← e) refl

pub own_some : (a : Application) (u : Use) (v : Value) (ts : List Text) → Some v ≡ u.annotation
    → unit_text true (unit a u.keyword v) ∷ ts ≡ annotation_texts (own_annotation a u u.annotation) ++ ts
own_some a u v ts e = rw (← e) refl

-- ---- the names that it annotates with
pub names_of_patterns : (k : Keyword) (ns : List Text) → k ≡ PatternProperties → once ns ≡ annotation_names (row_of k).meaning ns
names_of_patterns k ns e = rw e refl

pub names_of_others : (k : Keyword) (ns : List Text) → (k ≡ PatternProperties → ⊥) → ns ≡ annotation_names (row_of k).meaning ns
names_of_others PatternProperties ns other = absurd (other refl)
names_of_others _ ns other = refl

-- ---- what is planned is what the definitions apply
planned_outcomes : (l : Linked) (left : ℕ) (k : Text) (a : Application) (ps : List Planned)
    → part_outcomes l left k a ps ≡ map (λ e. (e.0, linked_outcome l left e.1)) (map (planned_view k a) ps)
planned_outcomes l left k a [] = refl
planned_outcomes l left k a (p ∷ ps) = ap (λ os. (let e = planned_view k a p in (e.0, linked_outcome l left e.1)) ∷ os) (planned_outcomes l left k a ps)

planned_known : (l : Linked) (left : ℕ) (keyword : Keyword) (a : Application) (ps : List Planned) (names : List Text) (indexes : List ℕ) (v : Value)
    → Contains (linked_schemas l) a.schema → HasResources l a.scope → get (row_of keyword).name a.schema.value ≡ Some v
    → map (planned_view (row_of keyword).name a) ps ≡ keyword_applications (linked_rules l) (linked_outcome l left) names indexes a (row_of keyword).name (row_of keyword).meaning v
    → (p : Planned) → Contains ps p → IsKnown l (row_of keyword).name a p
planned_known l left keyword a ps names indexes v inside scope found same p here =
    let k = (row_of keyword).name in
    let e = planned_view k a p in
    let there : Contains (map (planned_view k a) ps) e = contains_from_in (map (planned_view k a) ps) e (into_map (planned_view k a) ps p (in_from_contains ps p here)) in
    record {
      inside = inside;
      scope = scope;
      planned =
          applied_schemas_are_known (linked_rules l) (linked_documents l) refl (linked_outcome l left) names indexes a (row_of keyword) v e (row_in keyword) inside found
          (subst (λ es. Contains es e) same there);
    }

pub plan_of : (l : Linked) (left : ℕ) (keyword : Keyword) (a : Application) (ps : List Planned) (names : List Text) (indexes : List ℕ) (v : Value)
    → Contains (linked_schemas l) a.schema → HasResources l a.scope → get (row_of keyword).name a.schema.value ≡ Some v
    → map (planned_view (row_of keyword).name a) ps ≡ keyword_applications (linked_rules l) (linked_outcome l left) names indexes a (row_of keyword).name (row_of keyword).meaning v
    → IsPlan l left a keyword (use_there l left a keyword names indexes v) ps
plan_of l left keyword a ps names indexes v inside scope found same = record {
  known = planned_known l left keyword a ps names indexes v inside scope found same;
  outcomes = planned_outcomes l left (row_of keyword).name a ps ∙ ap (map (λ (e : Part × Application). (e.0, linked_outcome l left e.1))) same;
}

-- ---- one use
pub use_valid : (b : Bool) (u : Use) → b ≡ u.passes → b ≡ list_all (λ u. u.passes) (u ∷ [])
use_valid b u e = e ∙ sym (and-true u.passes)

pub use_passing : (p : Option ℕ) (applied : Applied) (u : Use) → p ≡ Some applied.passing → FindsAll applied u.outcomes → p ≡ passing_first (u ∷ [])
use_passing p applied u e found = e ∙ ap Some found.passing

pub use_over : (a : Application) (n : Notes) (m : Meaning) (u : Use) → IsOver n (parts_notes m u.outcomes) → IsOver n (uses_notes a (u ∷ []))
use_over a n m u h = let c : (parts_tally u.outcomes).count ≡ (uses_tally (u ∷ [])).count = ap (λ (t : Tally). t.count) (tally_of_one u) in omega (arith, h, c)

-- ---- at the keyword
pub at_keyword_of : (l : Linked) (left : ℕ) (f g : Frame) (s x : Value) (keyword : Keyword) (v : Value) (siblings : Siblings) (a : Application)
    → IsAt l f s x a → frame_standing g ≡ at_keyword (row_of keyword).name (frame_standing f) → Knows l left a (row_of keyword).meaning siblings
    → get (row_of keyword).name a.schema.value ≡ Some v → IsAtKeyword l left g s x keyword v siblings a
at_keyword_of l left f g s x keyword v siblings a at e knows valued = record {
  under = e ∙ ap (at_keyword (row_of keyword).name) (sym (ap standing_of at.there));
  schema = ap (λ (b : Application). b.schema.value) at.there;
  instance = ap (λ (b : Application). b.instance) at.there;
  inside = at.inside;
  scope = at.scope;
  knows = knows;
  valued = valued;
}

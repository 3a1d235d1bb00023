-- Laws of the outcome of a schema object, from the uses of its keywords.
use Rattle.std.proofs.Common.{◌≡◌, ◌+◌, length, List, [], ◌∷◌, ◌++◌, true, false, inl, inr, refl, sym, ap, ◌∙◌, arith, append-nil, flat_map}
use Rattle.std.proofs.lemmas.Bool.{and_parts}
use Rattle.std.proofs.lemmas.List.{map-append}
use Rattle.std.proofs.lemmas.List.Elements.{Contains-push_cases}
use Rattle.std.specs.List.{list_all}
use Rattle.definitions.specs.Values.{Value}
use Rattle.definitions.specs.Applied.{Application, application_within}
use Rattle.definitions.specs.Outcomes.{Use, other_annotations, outcome_of_uses, use_annotations, use_errors}
use Rattle.basic_output.specs.Pieces.{unit_text}
use Rattle.linker.specs.declared.linked.Linked.{Linked}
use Rattle.evaluation_context.specs.Frames.{Frame, frame_standing}
use Rattle.evaluation_context.specs.Standings.{Standing, application_at, standing_of, within_object}
use Rattle.evaluation_log.specs.Notes.{IsOver, Notes, annotation_texts, error_texts, lengths, kept_annotations, notes_of_both, object_notes, one_application, outcome_notes, uses_notes}
use Rattle.evaluation_log.specs.Tallies.{no_tally, outcome_tally, tally_of_both, uses_tally}
use Rattle.evaluator.specs.Rounds.{IsAt}
use Rattle.evaluation_log.proofs.LogLaws.{added_twice, annotated, mapped_all, same_lengths, same_notes, same_tallies, tallied_nothing}

-- ---- uses that all pass
no_errors : (a : Application) (us : List Use) → list_all (λ u. u.passes) us ≡ true → flat_map (λ u. error_texts (use_errors a u)) us ≡ []
no_errors a [] h = refl
no_errors a (u ∷ us) h = rw (and_parts u.passes (list_all (λ u. u.passes) us) h).0 (no_errors a us (and_parts u.passes (list_all (λ u. u.passes) us) h).1)

all_kept : (a : Application) (us : List Use) → list_all (λ u. u.passes) us ≡ true → flat_map (kept_annotations a) us ≡ flat_map (λ u. annotation_texts (use_annotations a u)) us
all_kept a [] h = refl
all_kept a (u ∷ us) h =
    rw (and_parts u.passes (list_all (λ u. u.passes) us) h).0
    (ap (λ l. annotation_texts (use_annotations a u) ++ l) (all_kept a us (and_parts u.passes (list_all (λ u. u.passes) us) h).1))

-- ---- what the object notes: it counts itself
object_tally : (a : Application) (us : List Use) → tally_of_both (record no_tally { count = 1 }) (uses_tally us) ≡ outcome_tally (outcome_of_uses a us)
object_tally a us = same_tallies (omega arith) refl refl

pub passing_object : (a : Application) (us : List Use) → list_all (λ u. u.passes) us ≡ true
    → notes_of_both (object_notes a us) (annotated (other_annotations a)) ≡ outcome_notes (outcome_of_uses a us)
unfolding notes_of_both
passing_object a us h =
    same_notes (append-nil _ ∙ no_errors a us h)
    (ap (λ l. l ++ annotation_texts (other_annotations a)) (all_kept a us h ∙ sym (mapped_all (unit_text true) (use_annotations a) us))
    ∙ sym (map-append (unit_text true) (flat_map (use_annotations a) us) (other_annotations a)))
    (append-nil _) (append-nil _) (tallied_nothing _ ∙ object_tally a us) ∙ rw h refl

pub failing_object : (a : Application) (us : List Use) → list_all (λ u. u.passes) us ≡ false
    → record (object_notes a us) { annotations = []; names = []; indexes = [] } ≡ outcome_notes (outcome_of_uses a us)
unfolding notes_of_both
failing_object a us h = rw h (same_notes (sym (mapped_all (unit_text false) (use_errors a) us)) refl refl refl (object_tally a us))

-- ---- within the object
entered_there : (st : Standing) (s x : Value) → application_within (application_at st s x) ≡ application_at (within_object st) s x
entered_there st s x = refl

pub entered_at : (l : Linked) (f g : Frame) (s x : Value) (a : Application) → IsAt l f s x a → frame_standing g ≡ within_object (frame_standing f) → IsAt l g s x (application_within a)
entered_at l f g s x a at e = record {
  there = ap application_within at.there ∙ entered_there (frame_standing f) s x ∙ ap (λ st. application_at st s x) (sym e);
  inside = at.inside;
  scope =
      λ uri c. elim (Contains-push_cases a.scope a.schema.resource uri c) [
        | inl older ↦ at.scope uri older
        | inr own ↦ (a.schema, at.inside, own)
      ];
}

pub stands_there : (st : Standing) (s x : Value) (a : Application) → a ≡ application_at st s x → st ≡ standing_of a
stands_there st s x a e = sym (ap standing_of e)

-- the same units, and the same names and indexes
pub entered_notes : (a : Application) (us : List Use) → uses_notes (application_within a) us ≡ uses_notes a us
entered_notes a us = refl

-- after the object counted itself
pub counted_noted : (a : Application) (n mid new : Notes) (us : List Use) → mid ≡ notes_of_both n one_application → new ≡ notes_of_both mid (uses_notes (application_within a) us)
    → new ≡ notes_of_both n (object_notes a us)
counted_noted a n mid new us e f =
    f ∙ ap (notes_of_both mid) (entered_notes a us) ∙ ap (λ (k : Notes). notes_of_both k (uses_notes a us)) e ∙ added_twice n one_application (uses_notes a us)

pub counted_over : (a : Application) (n mid : Notes) (us : List Use) → mid ≡ notes_of_both n one_application → IsOver mid (uses_notes (application_within a) us)
    → IsOver n (outcome_notes (outcome_of_uses a us))
unfolding notes_of_both
counted_over a n mid us e h =
    let c : mid.tally.count ≡ n.tally.count + 1 = ap (λ (k : Notes). k.tally.count) e in omega (arith, c, h)

-- the same lengths before and after
pub counted_lengths : (n mid : Notes) → mid ≡ notes_of_both n one_application → lengths mid ≡ lengths n
unfolding notes_of_both
counted_lengths n mid e = ap lengths e ∙ same_lengths (ap length (append-nil n.errors)) (ap length (append-nil n.annotations)) (ap length (append-nil n.names)) (ap length (append-nil n.indexes))

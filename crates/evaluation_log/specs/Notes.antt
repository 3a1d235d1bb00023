-- What an evaluation notes: the texts of units of the output, the names and indexes that were evaluated, and the tally of
-- applications.
use Rattle.std.specs.Prelude.{◌≡◌, ◌+◌, ◌<◌, ℕ, List, [], ◌∷◌, ◌++◌, Bool, true, false, ◌&&◌, not, if◌then◌else◌, length, map, flat_map}
use Rattle.definitions.specs.Values.{Text}
use Rattle.definitions.specs.Keywords.{Meaning, contains, negation}
use Rattle.definitions.specs.Applied.{Application, Outcome, OutputUnit, Part, whole, named, indexed}
use Rattle.definitions.specs.Evaluated.{may_annotate}
use Rattle.definitions.specs.Outcomes.{Use, use_annotations, use_errors}
use Rattle.definitions.specs.Limits.{limits}
use Rattle.basic_output.specs.Pieces.{unit_text}
use Rattle.evaluation_log.specs.Tallies.{Tally, no_tally, outcome_tally, parts_tally, tally_of_both, uses_tally}

pub record Notes : Type 0 where
  pub errors : List Text
  pub annotations : List Text
  pub names : List Text
  pub indexes : List ℕ
  pub tally : Tally

-- ---- the texts of units
abbrev pub error_texts : List OutputUnit → List Text
error_texts us = map (unit_text false) us

abbrev pub annotation_texts : List OutputUnit → List Text
annotation_texts us = map (unit_text true) us

-- ---- nothing, and one after the other
abbrev pub no_notes : Notes
no_notes = record { errors = []; annotations = []; names = []; indexes = []; tally = no_tally }

-- these, and then those
unfoldable pub notes_of_both : Notes → Notes → Notes
notes_of_both older newer = record {
  errors = older.errors ++ newer.errors;
  annotations = older.annotations ++ newer.annotations;
  names = older.names ++ newer.names;
  indexes = older.indexes ++ newer.indexes;
  tally = tally_of_both older.tally newer.tally;
}

-- with those, these would count more applications than there may be
abbrev pub IsOver : Notes → Notes → Type 0
IsOver older newer = limits.applications < older.tally.count + newer.tally.count

-- ---- of an application: it counts itself
abbrev pub one_application : Notes
one_application = record no_notes { tally = record no_tally { count = 1 } }

abbrev pub outcome_notes : Outcome → Notes
outcome_notes o = record {
  errors = error_texts o.errors;
  annotations = annotation_texts o.annotations;
  names = o.names;
  indexes = o.indexes;
  tally = outcome_tally o;
}

-- it passes without a word, and applied nothing
pub record IsSilent (o : Outcome) : Type 0 where
  pub passes : o.valid ≡ true
  pub noted : outcome_notes o ≡ one_application

-- ---- of what a keyword applied: its units, and what of the instance it evaluated
abbrev pub names_from : Part → Outcome → List Text
names_from whole o = o.names
names_from (named n) o = n ∷ []
names_from _ o = []

-- of `contains` alone an element counts only where it passed
abbrev pub needs_to_pass : Meaning → Bool
needs_to_pass contains = true
needs_to_pass _ = false

abbrev pub indexes_from : Meaning → Part → Outcome → List ℕ
indexes_from meaning whole o = o.indexes
indexes_from meaning (indexed i) o = if needs_to_pass meaning && not o.valid then [] else i ∷ []
indexes_from meaning _ o = []

abbrev pub part_notes : Meaning → Part × Outcome → Notes
part_notes meaning e = record {
  errors = error_texts e.1.errors;
  annotations = annotation_texts e.1.annotations;
  names = names_from e.0 e.1;
  indexes = indexes_from meaning e.0 e.1;
  tally = outcome_tally e.1;
}

abbrev pub parts_notes : Meaning → List (Part × Outcome) → Notes
parts_notes meaning es = record {
  errors = flat_map (λ e. error_texts e.1.errors) es;
  annotations = flat_map (λ e. annotation_texts e.1.annotations) es;
  names = flat_map (λ e. names_from e.0 e.1) es;
  indexes = flat_map (λ e. indexes_from meaning e.0 e.1) es;
  tally = parts_tally es;
}

-- `not` evaluates nothing
abbrev pub evaluates : Meaning → Bool
evaluates negation = false
evaluates _ = true

-- what the keyword lets be seen of that
abbrev pub visible_notes : Meaning → Notes → Notes
visible_notes meaning n = record n {
  annotations = (if may_annotate meaning then n.annotations else []);
  names = (if evaluates meaning then n.names else []);
  indexes = (if evaluates meaning then n.indexes else []);
}

-- ---- of uses of keywords: what fails annotates nothing, and evaluates all the same
abbrev pub kept_annotations : Application → Use → List Text
kept_annotations a u = if u.passes then annotation_texts (use_annotations a u) else []

abbrev pub uses_notes : Application → List Use → Notes
uses_notes a us = record {
  errors = flat_map (λ u. error_texts (use_errors a u)) us;
  annotations = flat_map (kept_annotations a) us;
  names = flat_map (λ u. u.names) us;
  indexes = flat_map (λ u. u.indexes) us;
  tally = uses_tally us;
}

-- a schema object with these uses
abbrev pub object_notes : Application → List Use → Notes
object_notes a us = notes_of_both one_application (uses_notes a us)

-- ---- how much there is
pub record Lengths : Type 0 where
  pub errors : ℕ
  pub annotations : ℕ
  pub names : ℕ
  pub indexes : ℕ

abbrev pub lengths : Notes → Lengths
lengths n = record { errors = length n.errors; annotations = length n.annotations; names = length n.names; indexes = length n.indexes }

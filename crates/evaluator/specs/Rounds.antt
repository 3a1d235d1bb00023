-- Where an evaluation stands, and what it does there, as the definitions have it.
use Rattle.std.specs.Prelude.{◌≡◌, ◌≤◌, ℕ, zero, suc, false, List, [], ◌∷◌, Bool, true, Option, Some, count_by, ◌++◌, drop, flat_map, length, map, option_map, Contains}
use Rattle.definitions.specs.Values.{Text, Value, get}
use Rattle.definitions.specs.Keywords.{Meaning}
use Rattle.definitions.specs.Applied as definition
use Rattle.definitions.specs.Applied.{Application, Outcome, condition_outcome, contains_outcomes}
use Rattle.definitions.specs.Limits.{limits}
use Rattle.definitions.specs.Outcomes.{Use, boolean_outcome, leaf, outcome, use_of, uses_by_keyword, uses_of}
use Rattle.linker.specs.LinkedDocuments.{linked_schemas}
use Rattle.linker.specs.declared.linked.Linked.{Linked}
use Rattle.keyword_plans.specs.Applications.{named_count}
use Rattle.keyword_plans.specs.LinkedResources.{HasResources}
use Rattle.applicators.specs.Plans.{outcomes_of, planned_view}
use Rattle.keyword_plans.specs.Plans.{counts_contained, is_consequence, takes_others}
use Rattle.keywords.specs.Rows.{row_of}
use Rattle.keyword_plans.specs.ObjectApplications.{linked_rules}
use Rattle.keywords.specs.declared.keyword.Keyword.{Keyword}
use Rattle.keywords.specs.declared.keyword.Keyword.TheVariants.{UnevaluatedItems, UnevaluatedProperties}
use Rattle.applicators.specs.declared.planned.Planned.{Planned}
use Rattle.evaluation_context.specs.Frames.{Frame, frame_standing}
use Rattle.evaluation_context.specs.Standings.{application_at, at_keyword, standing_of}
use Rattle.evaluator.specs.Findings.{Outcomes}
use Rattle.evaluator.specs.Groups.{first_groups, rows_of}
use Rattle.evaluation_log.specs.Notes.{Notes, notes_of_both, uses_notes}
use Rattle.evaluator.specs.declared.siblings.Siblings.{Siblings}
use Rattle.keywords.specs.declared.group.Group.{Group}
use Rattle.evaluation_log.specs.declared.log.Before.{Before}

-- by the linked documents, where so many applications may nest
abbrev pub linked_outcome : Linked → ℕ → Application → Outcome
linked_outcome l left = outcome (linked_rules l) left

-- the outcome by the linked documents, where no application is under way
abbrev pub root_outcome : Linked → Application → Outcome
root_outcome l a = linked_outcome l limits.nested_applications a

-- the application of this schema, which is one of the linked documents', to this instance there; its scope has their resources
pub record IsAt (l : Linked) (f : Frame) (s x : Value) (a : Application) : Type 0 where
  pub there : a ≡ application_at (frame_standing f) s x
  pub inside : Contains (linked_schemas l) a.schema
  pub scope : HasResources l a.scope

-- at the keyword of this name, under this application's schema object
abbrev pub IsUnder : Frame → Text → Application → Type 0
IsUnder f k a = frame_standing f ≡ at_keyword k (standing_of a)

-- ---- what a keyword applied
abbrev pub part_outcome : Linked → ℕ → Text → Application → Planned → definition.Part × Outcome
part_outcome l left k a p = let e = planned_view k a p in (e.0, linked_outcome l left e.1)

abbrev pub part_outcomes : Linked → ℕ → Text → Application → List Planned → Outcomes
part_outcomes l left k a ps = map (part_outcome l left k a) ps

-- the application's schema, the resources of its scope, and the schema that is planned are the linked documents'
pub record IsKnown (l : Linked) (k : Text) (a : Application) (p : Planned) : Type 0 where
  pub inside : Contains (linked_schemas l) a.schema
  pub scope : HasResources l a.scope
  pub planned : Contains (linked_schemas l) (planned_view k a p).1.schema

-- ---- what keywords beside said
pub record Knows (l : Linked) (left : ℕ) (a : Application) (meaning : Meaning) (siblings : Siblings) : Type 0 where
  pub condition : is_consequence meaning ≡ true → option_map (λ o. o.valid) (condition_outcome (linked_outcome l left) a) ≡ siblings.condition
  pub containing : counts_contained meaning ≡ true → option_map (count_by (λ o. o.valid)) (contains_outcomes (linked_outcome l left) a) ≡ siblings.containing
  pub named : takes_others meaning ≡ true → siblings.named ≤ named_count a

-- at a keyword with this value, of the schema s that is applied to the instance x
pub record IsAtKeyword (l : Linked) (left : ℕ) (f : Frame) (s x : Value) (keyword : Keyword) (v : Value) (siblings : Siblings) (a : Application) : Type 0 where
  pub under : IsUnder f (row_of keyword).name a
  pub schema : a.schema.value ≡ s
  pub instance : a.instance ≡ x
  pub inside : Contains (linked_schemas l) a.schema
  pub scope : HasResources l a.scope
  pub knows : Knows l left a (row_of keyword).meaning siblings
  pub valued : get (row_of keyword).name a.schema.value ≡ Some v

-- ---- the uses of keywords
abbrev pub names_since : Before → Notes → List Text
names_since before n = drop before.names n.names

abbrev pub indexes_since : Before → Notes → List ℕ
indexes_since before n = drop before.indexes n.indexes

-- a keyword of the application's schema, where it has this value
abbrev pub uses_with : Linked → ℕ → Application → Keyword → List Text → List ℕ → Option Value → List Use
uses_with l left a k names indexes v = uses_by_keyword (linked_rules l) (linked_outcome l left) names indexes a (row_of k) v

-- the use of a keyword of the application's schema, which has this value
abbrev pub use_there : Linked → ℕ → Application → Keyword → List Text → List ℕ → Value → Use
use_there l left a k names indexes v =
    use_of (linked_rules l) (linked_outcome l left) a (row_of k).name (row_of k).meaning v
    (outcomes_of (linked_rules l) (linked_outcome l left) names indexes a (row_of k).name (row_of k).meaning v)

abbrev pub keyword_uses : Linked → ℕ → Application → Keyword → List Text → List ℕ → List Use
keyword_uses l left a k names indexes = uses_with l left a k names indexes (get (row_of k).name a.schema.value)

abbrev pub group_uses : Linked → ℕ → Application → Group → List Use
group_uses l left a g = uses_of (linked_rules l) (linked_outcome l left) (rows_of g) [] [] a

abbrev pub groups_uses : Linked → ℕ → Application → List Group → List Use
groups_uses l left a gs = flat_map (group_uses l left a) gs

-- two keywords, the second of which sees what the first evaluated
abbrev pub uses_since : Linked → ℕ → Application → Keyword → Before → Notes → List Use
uses_since l left a k before n = keyword_uses l left a k (names_since before n) (indexes_since before n)

abbrev pub two_uses : Linked → ℕ → Application → Keyword → Keyword → Before → Notes → List Use
two_uses l left a first second before n =
    let us = uses_since l left a first before n in us ++ uses_since l left a second before (notes_of_both n (uses_notes a us))

-- the keywords that look at what others evaluated, after these uses
abbrev pub unevaluated_uses : Linked → ℕ → Application → List Use → List Use
unevaluated_uses l left a us =
    uses_of (linked_rules l) (linked_outcome l left) (row_of UnevaluatedItems ∷ row_of UnevaluatedProperties ∷ []) (flat_map (λ u. u.names) us) (flat_map (λ u. u.indexes) us) a

-- all keywords of a schema object
unfoldable pub object_uses : Linked → ℕ → Application → List Use
object_uses l left a = let us = groups_uses l left a first_groups in us ++ unevaluated_uses l left a us

-- how many names and indexes were evaluated
abbrev pub evaluated_in : Notes → Before
evaluated_in n = record { names = length n.names; indexes = length n.indexes }

-- ---- boolean schemas
-- where so many applications may nest
abbrev pub boolean_at : ℕ → Application → Bool → Outcome
boolean_at zero a b = leaf false true
boolean_at (suc n) a b = boolean_outcome a b

-- What a keyword applies by patterns, and beside those that do.
use Rattle.std.specs.Prelude.{◌≡◌, ℕ, List, [], ◌∷◌, Option, Some, None, map, flat_map, filter, not, length, codes, Contains}
use Rattle.std.specs.List.{AllByRecursion}
use Rattle.definitions.specs.Values.{Text, Value, entry, members}
use Rattle.definitions.specs.Patterns.{has_match}
use Rattle.definitions.specs.Searches.{patterns_of}
use Rattle.definitions.specs.Schemas.{Schema}
use Rattle.definitions.specs.Applied.{Application, Part, named, at_part, at_members, beside, is_taken}
use Rattle.linker.specs.LinkedDocuments.{linked_schemas}
use Rattle.linker.specs.declared.linked.Linked.{Linked}
use Rattle.keyword_plans.specs.ObjectApplications.{linked_rules}
use Rattle.applicators.specs.Applications.{planned_members}

-- how many members of the instance `properties` beside names
abbrev pub named_count : Application → ℕ
named_count a = length (planned_members (codes "properties") a (members (beside a (codes "properties"))))

-- the schemas under the patterns that match this name, at its member
abbrev pub planned_matches : Text → Application → Text → Value → List (Text × Value) → List (Part × Application)
planned_matches k a name x ps = map (λ p. at_part a (k ∷ p.0 ∷ []) p.1 (named name) x) (filter (λ p. has_match p.0 name) ps)

-- the schemas under the patterns that match the name of one of these members, at that member
abbrev pub planned_pattern : Text → Application → List (Text × Value) → List (Text × Value) → List (Part × Application)
planned_pattern k a ps ms = flat_map (λ m. planned_matches k a m.0 m.1 ps) ms

-- the schema v, at each of these members that no keyword beside takes
abbrev pub planned_others : Linked → Text → Application → Value → List (Text × Value) → List (Part × Application)
planned_others l k a v ms = at_members a k v (filter (λ m. not (is_taken (linked_rules l) a m.0)) ms)

-- the schema v, at the member m, where no schema has its name
abbrev pub at_unnamed : Application → Text → Value → Text × Value → Option Value → List (Part × Application)
at_unnamed a k v m None = at_part a (k ∷ []) v (named m.0) m.1 ∷ []
at_unnamed a k v m (Some s) = []

-- the schema v, at each of these members whose name isn't among the schemas ss
abbrev pub planned_unnamed : Text → Application → Value → List (Text × Value) → List (Text × Value) → List (Part × Application)
planned_unnamed k a v ss ms = flat_map (λ m. at_unnamed a k v m (entry m.0 ss)) ms

-- each of these names is a pattern of a schema of the linked documents' resource with this URI
pub record ArePatternsOf (l : Linked) (uri : Text) (s : Schema) (ps : List (Text × Value)) : Type 0 where
  pub inside : Contains (linked_schemas l) s
  pub resource : s.resource ≡ uri
  pub patterns : AllByRecursion (λ p. Contains (patterns_of s) p.0) ps

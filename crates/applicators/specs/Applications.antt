-- What a keyword applies, read off lists of schemas, elements and members.
use Rattle.std.specs.Prelude.{ℕ, List, [], ◌∷◌, Option, Some, None, ◌==◌, decimal, map, flat_map, filter, zip, is_some, not}
use Rattle.std.specs.List.{list_any, enumerate_from}
use Rattle.definitions.specs.Values.{Text, Value, entry, get, string}
use Rattle.definitions.specs.Applied.{Application, Part, named, indexed, name_of, at_part, in_place, at_present, at_members, has}

-- these schemas, numbered from i, at the whole instance
abbrev pub planned_elements : Text → Application → ℕ → List Value → List (Part × Application)
planned_elements k a i vs = map (λ e. in_place a (k ∷ decimal e.0 ∷ []) e.1) (enumerate_from i vs)

-- the members of the instance whose names stand among these schemas
abbrev pub planned_members : Text → Application → List (Text × Value) → List (Part × Application)
planned_members k a ms = flat_map (λ m. at_present a k m (get m.0 a.instance)) ms

-- the schemas whose names the instance has, at the whole instance
abbrev pub planned_dependents : Text → Application → List (Text × Value) → List (Part × Application)
planned_dependents k a ms = map (λ m. in_place a (k ∷ m.0 ∷ []) m.1) (filter (λ m. is_some (get m.0 a.instance)) ms)

-- the member m, under the schema of its name
abbrev pub at_schema : Application → Text → Text × Value → Option Value → List (Part × Application)
at_schema a k m None = []
at_schema a k m (Some v) = at_part a (k ∷ m.0 ∷ []) v (named m.0) m.1 ∷ []

-- each of these members whose name stands among the schemas ss
abbrev pub planned_at_names : Text → Application → List (Text × Value) → List (Text × Value) → List (Part × Application)
planned_at_names k a ss ms = flat_map (λ m. at_schema a k m (entry m.0 ss)) ms

-- the schema of the name of the member m, at the whole instance
abbrev pub under_schema : Application → Text → Text × Value → Option Value → List (Part × Application)
under_schema a k m None = []
under_schema a k m (Some v) = in_place a (k ∷ m.0 ∷ []) v ∷ []

-- the schemas among ss of the names of these members, at the whole instance
abbrev pub planned_under_names : Text → Application → List (Text × Value) → List (Text × Value) → List (Part × Application)
planned_under_names k a ss ms = flat_map (λ m. under_schema a k m (entry m.0 ss)) ms

-- each of these schemas, numbered from i, at the element beside it
abbrev pub planned_pairs : Text → Application → ℕ → List Value → List Value → List (Part × Application)
planned_pairs k a i vs xs = map (λ e. at_part a (k ∷ decimal (e.0).0 ∷ []) (e.0).1 (indexed (e.0).0) e.1) (zip (enumerate_from i vs) xs)

-- the schema v, at each of these names
abbrev pub planned_names : Text → Application → Value → List (Text × Value) → List (Part × Application)
planned_names k a v ms = map (λ m. at_part a (k ∷ []) v (name_of m.0) (string m.0)) ms

-- the schema v, at each of these elements, numbered from i, whose index isn't among these
abbrev pub planned_unevaluated_items : Text → Application → Value → List ℕ → ℕ → List Value → List (Part × Application)
planned_unevaluated_items k a v is i xs = map (λ e. at_part a (k ∷ []) v (indexed e.0) e.1) (filter (λ e. not (list_any (λ i. i == e.0) is)) (enumerate_from i xs))

-- the schema v, at each of these members whose name isn't among these
abbrev pub planned_unevaluated_properties : Text → Application → Value → List Text → List (Text × Value) → List (Part × Application)
planned_unevaluated_properties k a v ns ms = at_members a k v (filter (λ m. not (has m.0 ns)) ms)

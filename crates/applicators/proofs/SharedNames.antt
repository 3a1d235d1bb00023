-- What the schemas of a keyword and the members of an instance share, walked along either.
use Rattle.std.proofs.Common.{◌≡◌, List, [], ◌∷◌, ◌++◌, map, Option, Some, None, cond, is_some, refl, sym, ap, ◌∙◌}
use Rattle.std.specs.List.{flat_map, filter}
use Rattle.definitions.specs.Values.{Text, Value, entry, members}
use Rattle.definitions.specs.Applied.{Application, Part, in_place, at_present}
use Rattle.json_doc.specs.Members.{HasNamesInOrder}
use Rattle.assertions.proofs.SharedNames.{along_either}
use Rattle.applicators.specs.Applications.{planned_members, planned_dependents, planned_at_names, planned_under_names, at_schema, under_schema}

-- ---- `properties`
pub along_members : (k : Text) (a : Application) (ss ms : List (Text × Value)) → members a.instance ≡ ms → HasNamesInOrder ss → HasNamesInOrder ms
    → planned_at_names k a ss ms ≡ planned_members k a ss
along_members k a ss ms e h ordered =
    sym (ap (λ xs. flat_map (λ s. at_present a k s (entry s.0 xs)) ss) e
    ∙ along_either (at_present a k) (at_schema a k) (λ m. refl) (λ m. refl) (λ n v x. refl) ss ms h ordered)

nowhere : (k : Text) (a : Application) (ss : List (Text × Value)) → flat_map (λ s. at_present a k s (entry s.0 [])) ss ≡ []
nowhere k a [] = refl
nowhere k a (s ∷ ss) = nowhere k a ss

pub without_members : (k : Text) (a : Application) (ss : List (Text × Value)) → members a.instance ≡ [] → planned_members k a ss ≡ []
without_members k a ss e = ap (λ xs. flat_map (λ s. at_present a k s (entry s.0 xs)) ss) e ∙ nowhere k a ss

-- ---- `dependentSchemas`
abbrev applied_if : Application → Text → Text × Value → Option Value → List (Part × Application)
applied_if a k s None = []
applied_if a k s (Some x) = in_place a (k ∷ s.0 ∷ []) s.1 ∷ []

filtered : (k : Text) (a : Application) (ss ms : List (Text × Value))
    → map (λ s. in_place a (k ∷ s.0 ∷ []) s.1) (filter (λ s. is_some (entry s.0 ms)) ss) ≡ flat_map (λ s. applied_if a k s (entry s.0 ms)) ss
filtered k a [] ms = refl
filtered k a (s ∷ ss) ms = by (entry s.0 ms) (filter (λ r. is_some (entry r.0 ms)) ss) (flat_map (λ r. applied_if a k r (entry r.0 ms)) ss) (filtered k a ss ms)
  where
    by : (o : Option Value) (xs : List (Text × Value)) (ys : List (Part × Application)) → map (λ s. in_place a (k ∷ s.0 ∷ []) s.1) xs ≡ ys
        → map (λ s. in_place a (k ∷ s.0 ∷ []) s.1) (cond (is_some o) (s ∷ xs) xs) ≡ applied_if a k s o ++ ys
    by None xs ys more = more
    by (Some x) xs ys more = ap (λ zs. in_place a (k ∷ s.0 ∷ []) s.1 ∷ zs) more

pub along_dependents : (k : Text) (a : Application) (ss ms : List (Text × Value)) → members a.instance ≡ ms → HasNamesInOrder ss → HasNamesInOrder ms
    → planned_under_names k a ss ms ≡ planned_dependents k a ss
along_dependents k a ss ms e h ordered =
    sym (ap (λ xs. map (λ s. in_place a (k ∷ s.0 ∷ []) s.1) (filter (λ s. is_some (entry s.0 xs)) ss)) e ∙ filtered k a ss ms
    ∙ along_either (applied_if a k) (under_schema a k) (λ m. refl) (λ m. refl) (λ n v x. refl) ss ms h ordered)

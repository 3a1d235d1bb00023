-- Whether a keyword passes, what it evaluates and how it annotates, from what its subschemas said (JSON Schema 2020-12 Core, 7.7, 10 and 11).
use Rattle.std.specs.Prelude.{ℕ, zero, pos, List, [], ◌∷◌, ◌++◌, Bool, true, false, ◌&&◌, ◌||◌, not, if◌then◌else◌, Option, Some, None, nat_lt, ◌==◌, length, codes, map, flat_map, filter, count_by, is_some}
use Rattle.std.specs.List.{list_all}
use Rattle.definitions.specs.Values.{Text, Value, boolean, integer, string, array, to_elements, same_text, get, elements, is_array, is_object, is_string}
use Rattle.definitions.specs.Uris.{begins}
use Rattle.definitions.specs.Assertions.{holds, is_at_most, is_at_least}
use Rattle.definitions.specs.Keywords.{Meaning, asserts, matches_pattern, refers, refers_dynamically, any_of, one_of, negation, condition, contains, min_contains, max_contains, properties, pattern_properties, additional_properties, prefix_items, items, property_names, unevaluated_items, unevaluated_properties, keywords, is_keyword_of}
use Rattle.definitions.specs.Applied.{Application, Outcome, Part, whole, named, indexed, Rules, beside, has, contains_outcomes}

abbrev pub pass_count : List (Part × Outcome) → ℕ
pass_count os = count_by (λ o. o.1.valid) os

abbrev pub all_pass : List (Part × Outcome) → Bool
all_pass os = list_all (λ o. o.1.valid) os

-- `minContains` beside is 0
abbrev pub needs_none : Value → Bool
needs_none (integer (pos zero)) = true
needs_none _ = false

-- 6.4.4, 6.4.5 of Validation: the number of passing elements, of a list, by the `contains` beside
abbrev pub contains_holds : (ℕ → Bool) → Bool → Option (List Outcome) → Bool
contains_holds p true (Some os) = p (count_by (λ o. o.valid) os)
contains_holds p _ _ = true

abbrev pub pattern_holds : (Text → Text → Bool) → Value → Value → Bool
pattern_holds matches (string p) (string s) = matches p s
pattern_holds matches _ _ = true

-- by what the schemas that it applied said
abbrev pub keyword_passes : Rules → (Application → Outcome) → Application → Text → Meaning → Value → List (Part × Outcome) → Bool
keyword_passes rules run a k (asserts assertion) v os = holds assertion v a.instance
keyword_passes rules run a k matches_pattern v os = pattern_holds rules.matches v a.instance
keyword_passes rules run a k refers v os = pass_count os == 1
keyword_passes rules run a k refers_dynamically v os = pass_count os == 1
keyword_passes rules run a k any_of v os = nat_lt 0 (pass_count os)
keyword_passes rules run a k one_of v os = pass_count os == 1
keyword_passes rules run a k negation v os = pass_count os == 0
keyword_passes rules run a k condition v os = true
keyword_passes rules run a k contains v os = not (is_array a.instance) || (nat_lt 0 (pass_count os) || needs_none (beside a (codes "minContains")))
keyword_passes rules run a k min_contains v os = contains_holds (is_at_least v) (is_array a.instance) (contains_outcomes run a)
keyword_passes rules run a k max_contains v os = contains_holds (is_at_most v) (is_array a.instance) (contains_outcomes run a)
keyword_passes rules run a k _ v os = all_pass os

-- ---- what a use of a keyword evaluates (11)
abbrev pub part_names : List (Part × Outcome) → List Text
part_names [] = []
part_names ((named n, o) ∷ os) = n ∷ part_names os
part_names (o ∷ os) = part_names os

abbrev pub part_indexes : List (Part × Outcome) → List ℕ
part_indexes [] = []
part_indexes ((indexed i, o) ∷ os) = i ∷ part_indexes os
part_indexes (o ∷ os) = part_indexes os

abbrev pub is_in_place : Part → Bool
is_in_place whole = true
is_in_place _ = false

-- of what passed
abbrev pub outcomes_that_pass : List (Part × Outcome) → List (Part × Outcome)
outcomes_that_pass os = filter (λ o. o.1.valid) os

abbrev pub outcomes_that_fail : List (Part × Outcome) → List (Part × Outcome)
outcomes_that_fail os = filter (λ o. not o.1.valid) os

abbrev pub evaluated_names : Meaning → List (Part × Outcome) → List Text
evaluated_names negation os = []
evaluated_names property_names os = []
evaluated_names _ os = part_names os ++ flat_map (λ o. if is_in_place o.0 then o.1.names else []) (outcomes_that_pass os)

abbrev pub evaluated_indexes : Meaning → List (Part × Outcome) → List ℕ
evaluated_indexes negation os = []
evaluated_indexes contains os = part_indexes (outcomes_that_pass os)
evaluated_indexes _ os = part_indexes os ++ flat_map (λ o. if is_in_place o.0 then o.1.indexes else []) (outcomes_that_pass os)

-- ---- annotations (12.4.2)
abbrev pub names_value : List (Part × Outcome) → Value
names_value os = array (to_elements (map string (part_names os)))

-- each name once, where several patterns match it
abbrev pub once : List Text → List Text
once [] = []
once (n ∷ ns) = n ∷ filter (λ m. not (same_text n m)) (once ns)

abbrev pub last_index : List ℕ → ℕ
last_index [] = 0
last_index (i ∷ []) = i
last_index (i ∷ j ∷ is) = last_index (j ∷ is)

abbrev pub value_if_any_apply : List (Part × Outcome) → Value → Option Value
value_if_any_apply [] v = None
value_if_any_apply (o ∷ os) v = Some v

abbrev pub annotation_of : Application → Meaning → List (Part × Outcome) → Option Value
annotation_of a properties os = if is_object a.instance then Some (names_value os) else None
annotation_of a pattern_properties os =
    if is_object a.instance then Some (array (to_elements (map string (once (part_names os))))) else None
annotation_of a additional_properties os = if is_object a.instance then Some (names_value os) else None
annotation_of a unevaluated_properties os = if is_object a.instance then Some (names_value os) else None
annotation_of a prefix_items os =
    value_if_any_apply os (if length os == length (elements a.instance) then boolean true else integer (pos (last_index (part_indexes os))))
annotation_of a items os = value_if_any_apply os (boolean true)
annotation_of a unevaluated_items os = value_if_any_apply os (boolean true)
annotation_of a contains os =
    if is_array a.instance then Some (array (to_elements (map (λ i. integer (pos i)) (part_indexes (outcomes_that_pass os))))) else None
annotation_of a _ os = None

abbrev pub may_annotate : Meaning → Bool
may_annotate negation = false
may_annotate property_names = false
may_annotate _ = true

-- the names that annotate with their own value: those of the contents of strings (Validation, 8), and all that are no
-- keywords and don't begin with `$`
abbrev pub is_annotation : Value → Value → Text → Bool
is_annotation schema x name =
    if same_text name (codes "contentSchema") then is_string x && is_some (get (codes "contentMediaType") schema)
    else if has name (codes "contentEncoding" ∷ codes "contentMediaType" ∷ []) then is_string x
    else not (is_keyword_of keywords name || begins name (codes "$"))

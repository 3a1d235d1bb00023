-- Laws of what a keyword evaluates and reports, by what it applied.
use Rattle.std.proofs.Common.{◌≡◌, ℕ, List, [], ◌∷◌, ◌++◌, map, length, cond, Bool, true, false, not, ◌&&◌, Option, Some, None, refl, sym, ap, ap₂, ◌∙◌, append-nil, flat_map, filter, drop, zip, option_and_then, is_some, codes, if◌then◌else◌}
use Rattle.std.specs.Prelude.{◌==◌}
use Rattle.std.specs.List.{list_all, list_any, enumerate_from}
use Rattle.std.proofs.lemmas.List.Folds.{list_all-append}
use Rattle.definitions.specs.Values.{Text, Value, get, elements, members, string}
use Rattle.definitions.specs.Schemas.{Schema, reference_at}
use Rattle.definitions.specs.Targets.{target, dynamic_target}
use Rattle.definitions.specs.Keywords.{Meaning, asserts, matches_pattern, refers, refers_dynamically, all_of, any_of, one_of, negation, condition, consequence, dependent_schemas, prefix_items, items, contains, min_contains, max_contains, properties, pattern_properties, additional_properties, property_names, unevaluated_items, unevaluated_properties, declares}
use Rattle.definitions.specs.Applied.{Application, Outcome, OutputUnit, Part, Rules, whole, named, indexed, name_of, keyword_applications, at_part, at_present, beside, consequence_of, condition_outcome, is_taken, to_target, has}
use Rattle.definitions.specs.Evaluated.{outcomes_that_pass, outcomes_that_fail, part_names, part_indexes, is_in_place, evaluated_names, evaluated_indexes}
use Rattle.evaluation_log.specs.Notes.{names_from, indexes_from, needs_to_pass, evaluates}

-- ---- the parts that a keyword applies schemas to: all in place, or none
abbrev same : Bool → Bool → Bool
same true b = b
same false b = not b

abbrev stand : {X : Type 0} → Bool → List (Part × X) → Bool
stand b es = list_all (λ e. same b (is_in_place e.0)) es

abbrev ran : (Application → Outcome) → List (Part × Application) → List (Part × Outcome)
ran run es = map (λ e. (e.0, run e.1)) es

all_map : {X Y : Type 0} (p : Y → Bool) (f : X → Y) (xs : List X) → ((x : X) → p (f x) ≡ true) → list_all p (map f xs) ≡ true
all_map p f [] h = refl
all_map p f (x ∷ xs) h = rw (h x) (all_map p f xs h)

all_flat : {X Y : Type 0} (p : Y → Bool) (f : X → List Y) (xs : List X) → ((x : X) → list_all p (f x) ≡ true) → list_all p (flat_map f xs) ≡ true
all_flat p f [] h = refl
all_flat p f (x ∷ xs) h = list_all-append p (f x) (flat_map f xs) ∙ ap₂ (λ a b. a && b) (h x) (all_flat p f xs h)

-- ---- what was evaluated in place
abbrev names_in : Part × Outcome → List Text
names_in o = if is_in_place o.0 then o.1.names else []

abbrev indexes_in : Part × Outcome → List ℕ
indexes_in o = if is_in_place o.0 then o.1.indexes else []

-- what fails evaluates nothing
abbrev pub Quiet : (Application → Outcome) → Type 0
Quiet run = (a : Application) → (run a).valid ≡ false → ((run a).names ≡ []) × ((run a).indexes ≡ [])

kept_if : {X : Type 0} (b : Bool) (inner : Part × Outcome → List X) (e : Part × Outcome) (own xs : List X) (os : List (Part × Outcome)) → own ≡ inner e → (b ≡ false → own ≡ []) → xs ≡ flat_map inner os
    → own ++ xs ≡ flat_map inner (cond b (e ∷ os) os)
kept_if true inner e own xs os same none rest = ap₂ (λ us vs. us ++ vs) same rest
kept_if false inner e own xs os same none rest = ap₂ (λ us vs. us ++ vs) (none refl) rest

names_here : (run : Application → Outcome) → Quiet run → (es : List (Part × Application)) → stand true es ≡ true
    → flat_map (λ (o : Part × Outcome). names_from o.0 o.1) (ran run es) ≡ flat_map names_in (outcomes_that_pass (ran run es))
names_here run quiet [] h = refl
names_here run quiet ((whole, a) ∷ es) h = kept_if (run a).valid names_in (whole, run a) (run a).names _ (outcomes_that_pass (ran run es)) refl (λ e. (quiet a e).0) (names_here run quiet es h)
names_here run quiet ((named n, a) ∷ es) h = absurd (cc)
names_here run quiet ((indexed i, a) ∷ es) h = absurd (cc)
names_here run quiet ((name_of n, a) ∷ es) h = absurd (cc)

no_part_names : (run : Application → Outcome) (es : List (Part × Application)) → stand true es ≡ true → part_names (ran run es) ≡ []
no_part_names run [] h = refl
no_part_names run ((whole, a) ∷ es) h = no_part_names run es h
no_part_names run ((named n, a) ∷ es) h = absurd (cc)
no_part_names run ((indexed i, a) ∷ es) h = absurd (cc)
no_part_names run ((name_of n, a) ∷ es) h = absurd (cc)

names_apart : (run : Application → Outcome) (es : List (Part × Application)) → stand false es ≡ true → flat_map (λ (o : Part × Outcome). names_from o.0 o.1) (ran run es) ≡ part_names (ran run es)
names_apart run [] h = refl
names_apart run ((whole, a) ∷ es) h = absurd (cc)
names_apart run ((named n, a) ∷ es) h = ap (λ ns. n ∷ ns) (names_apart run es h)
names_apart run ((indexed i, a) ∷ es) h = names_apart run es h
names_apart run ((name_of n, a) ∷ es) h = names_apart run es h

indexes_here : (run : Application → Outcome) → Quiet run → (m : Meaning) (es : List (Part × Application)) → stand true es ≡ true
    → flat_map (λ (o : Part × Outcome). indexes_from m o.0 o.1) (ran run es) ≡ flat_map indexes_in (outcomes_that_pass (ran run es))
indexes_here run quiet m [] h = refl
indexes_here run quiet m ((whole, a) ∷ es) h = kept_if (run a).valid indexes_in (whole, run a) (run a).indexes _ (outcomes_that_pass (ran run es)) refl (λ e. (quiet a e).1) (indexes_here run quiet m es h)
indexes_here run quiet m ((named n, a) ∷ es) h = absurd (cc)
indexes_here run quiet m ((indexed i, a) ∷ es) h = absurd (cc)
indexes_here run quiet m ((name_of n, a) ∷ es) h = absurd (cc)

no_part_indexes : (run : Application → Outcome) (es : List (Part × Application)) → stand true es ≡ true → part_indexes (ran run es) ≡ []
no_part_indexes run [] h = refl
no_part_indexes run ((whole, a) ∷ es) h = no_part_indexes run es h
no_part_indexes run ((named n, a) ∷ es) h = absurd (cc)
no_part_indexes run ((indexed i, a) ∷ es) h = absurd (cc)
no_part_indexes run ((name_of n, a) ∷ es) h = absurd (cc)

indexes_apart : (run : Application → Outcome) (m : Meaning) (es : List (Part × Application)) → needs_to_pass m ≡ false → stand false es ≡ true
    → flat_map (λ (o : Part × Outcome). indexes_from m o.0 o.1) (ran run es) ≡ part_indexes (ran run es)
indexes_apart run m [] all h = refl
indexes_apart run m ((whole, a) ∷ es) all h = absurd (cc)
indexes_apart run m ((named n, a) ∷ es) all h = indexes_apart run m es all h
indexes_apart run m ((indexed i, a) ∷ es) all h = rw all (ap (λ is. i ∷ is) (indexes_apart run m es all h))
indexes_apart run m ((name_of n, a) ∷ es) all h = indexes_apart run m es all h

-- nothing stands in place
kept_none : {X : Type 0} (b : Bool) (inner : Part × Outcome → List X) (e : Part × Outcome) (os : List (Part × Outcome)) → inner e ≡ [] → flat_map inner os ≡ [] → flat_map inner (cond b (e ∷ os) os) ≡ []
kept_none true inner e os none rest = ap₂ (λ us vs. us ++ vs) none rest
kept_none false inner e os none rest = rest

inner_none : {X : Type 0} (inner : Part × Outcome → List X) → ((o : Part × Outcome) → is_in_place o.0 ≡ false → inner o ≡ []) → (run : Application → Outcome) (es : List (Part × Application))
    → stand false es ≡ true → flat_map inner (outcomes_that_pass (ran run es)) ≡ []
inner_none inner none run [] h = refl
inner_none inner none run ((whole, a) ∷ es) h = absurd (cc)
inner_none inner none run ((named n, a) ∷ es) h = kept_none (run a).valid inner (named n, run a) (outcomes_that_pass (ran run es)) (none (named n, run a) refl) (inner_none inner none run es h)
inner_none inner none run ((indexed i, a) ∷ es) h = kept_none (run a).valid inner (indexed i, run a) (outcomes_that_pass (ran run es)) (none (indexed i, run a) refl) (inner_none inner none run es h)
inner_none inner none run ((name_of n, a) ∷ es) h = kept_none (run a).valid inner (name_of n, run a) (outcomes_that_pass (ran run es)) (none (name_of n, run a) refl) (inner_none inner none run es h)

names_law : (run : Application → Outcome) → Quiet run → (b : Bool) (es : List (Part × Application)) → stand b es ≡ true
    → flat_map (λ (o : Part × Outcome). names_from o.0 o.1) (ran run es) ≡ part_names (ran run es) ++ flat_map names_in (outcomes_that_pass (ran run es))
names_law run quiet true es h = names_here run quiet es h ∙ ap (λ ns. ns ++ flat_map names_in (outcomes_that_pass (ran run es))) (sym (no_part_names run es h))
names_law run quiet false es h =
    names_apart run es h ∙ sym (append-nil (part_names (ran run es))) ∙ ap (λ ns. part_names (ran run es) ++ ns) (sym (inner_none names_in (λ o e. rw e refl) run es h))

indexes_law : (run : Application → Outcome) → Quiet run → (m : Meaning) → needs_to_pass m ≡ false → (b : Bool) (es : List (Part × Application)) → stand b es ≡ true
    → flat_map (λ (o : Part × Outcome). indexes_from m o.0 o.1) (ran run es) ≡ part_indexes (ran run es) ++ flat_map indexes_in (outcomes_that_pass (ran run es))
indexes_law run quiet m all true es h = indexes_here run quiet m es h ∙ ap (λ is. is ++ flat_map indexes_in (outcomes_that_pass (ran run es))) (sym (no_part_indexes run es h))
indexes_law run quiet m all false es h =
    indexes_apart run m es all h ∙ sym (append-nil (part_indexes (ran run es))) ∙ ap (λ is. part_indexes (ran run es) ++ is) (sym (inner_none indexes_in (λ o e. rw e refl) run es h))

-- ---- `contains` evaluates what passed alone
found_if : (b : Bool) (i : ℕ) (is : List ℕ) (o : Outcome) (os : List (Part × Outcome)) → is ≡ part_indexes os → (if not b then [] else i ∷ []) ++ is ≡ part_indexes (cond b ((indexed i, o) ∷ os) os)
found_if true i is o os rest = ap (λ is. i ∷ is) rest
found_if false i is o os rest = rest

skipped_if : (b : Bool) (is : List ℕ) (e : Part × Outcome) (os : List (Part × Outcome)) → part_indexes (e ∷ os) ≡ part_indexes os → is ≡ part_indexes os → is ≡ part_indexes (cond b (e ∷ os) os)
skipped_if true is e os skips rest = rest ∙ sym skips
skipped_if false is e os skips rest = rest

indexes_found : (run : Application → Outcome) (es : List (Part × Application)) → stand false es ≡ true
    → flat_map (λ (o : Part × Outcome). indexes_from contains o.0 o.1) (ran run es) ≡ part_indexes (outcomes_that_pass (ran run es))
indexes_found run [] h = refl
indexes_found run ((whole, a) ∷ es) h = absurd (cc)
indexes_found run ((named n, a) ∷ es) h = skipped_if (run a).valid _ (named n, run a) (outcomes_that_pass (ran run es)) refl (indexes_found run es h)
indexes_found run ((indexed i, a) ∷ es) h = found_if (run a).valid i _ (run a) (outcomes_that_pass (ran run es)) (indexes_found run es h)
indexes_found run ((name_of n, a) ∷ es) h = skipped_if (run a).valid _ (name_of n, run a) (outcomes_that_pass (ran run es)) refl (indexes_found run es h)

-- ---- names alone evaluate nothing
names_nothing : {X : Type 0} (run : Application → Outcome) (n : X → Text) (b : X → Application) (xs : List X)
    → flat_map (λ (o : Part × Outcome). names_from o.0 o.1) (ran run (map (λ x. (name_of (n x), b x)) xs)) ≡ []
names_nothing run n b [] = refl
names_nothing run n b (x ∷ xs) = names_nothing run n b xs

-- ---- by the keyword's meaning
referred : (a : Application) (k : Text) (s : Option Schema) → stand true (to_target a k s) ≡ true
referred a k None = refl
referred a k (Some s) = refl

followed_if : (a : Application) (k : Text) (v : Value) (wanted : Bool) (o : Outcome) (b : Bool) → o.valid ≡ b → stand true (consequence_of a k wanted v (Some o)) ≡ true
followed_if a k v true o true e = rw e refl
followed_if a k v true o false e = rw e refl
followed_if a k v false o true e = rw e refl
followed_if a k v false o false e = rw e refl

followed : (a : Application) (k : Text) (wanted : Bool) (v : Value) (o : Option Outcome) → stand true (consequence_of a k wanted v o) ≡ true
followed a k wanted v None = refl
followed a k true v (Some o) = followed_if a k v true o o.valid refl
followed a k false v (Some o) = followed_if a k v false o o.valid refl

presented : (a : Application) (k : Text) (m : Text × Value) (x : Option Value) → stand false (at_present a k m x) ≡ true
presented a k m None = refl
presented a k m (Some x) = refl

-- whether it applies schemas in place
abbrev applies_in_place : Meaning → Bool
applies_in_place prefix_items = false
applies_in_place items = false
applies_in_place contains = false
applies_in_place properties = false
applies_in_place pattern_properties = false
applies_in_place additional_properties = false
applies_in_place property_names = false
applies_in_place unevaluated_items = false
applies_in_place unevaluated_properties = false
applies_in_place _ = true

parts_stand : (rules : Rules) (run : Application → Outcome) (names : List Text) (indexes : List ℕ) (a : Application) (k : Text) (m : Meaning) (v : Value)
    → stand (applies_in_place m) (keyword_applications rules run names indexes a k m v) ≡ true
parts_stand rules run names indexes a k (asserts assertion) v = refl
parts_stand rules run names indexes a k matches_pattern v = refl
parts_stand rules run names indexes a k refers v = referred a k (option_and_then (target rules.schemas) (reference_at k a.schema))
parts_stand rules run names indexes a k refers_dynamically v = referred a k (option_and_then (dynamic_target rules.schemas a.scope) (reference_at k a.schema))
parts_stand rules run names indexes a k all_of v = all_map _ _ (enumerate_from 0 (elements v)) (λ e. refl)
parts_stand rules run names indexes a k any_of v = all_map _ _ (enumerate_from 0 (elements v)) (λ e. refl)
parts_stand rules run names indexes a k one_of v = all_map _ _ (enumerate_from 0 (elements v)) (λ e. refl)
parts_stand rules run names indexes a k negation v = refl
parts_stand rules run names indexes a k condition v = refl
parts_stand rules run names indexes a k (consequence wanted) v = followed a k wanted v (condition_outcome run a)
parts_stand rules run names indexes a k dependent_schemas v = all_map _ _ (filter (λ m. is_some (get m.0 a.instance)) (members v)) (λ e. refl)
parts_stand rules run names indexes a k prefix_items v = all_map _ _ (zip (enumerate_from 0 (elements v)) (elements a.instance)) (λ e. refl)
parts_stand rules run names indexes a k items v = all_map _ _ (let start = length (elements (beside a (codes "prefixItems"))) in enumerate_from start (drop start (elements a.instance))) (λ e. refl)
parts_stand rules run names indexes a k contains v = all_map _ _ (enumerate_from 0 (elements a.instance)) (λ e. refl)
parts_stand rules run names indexes a k min_contains v = refl
parts_stand rules run names indexes a k max_contains v = refl
parts_stand rules run names indexes a k properties v = all_flat _ _ (members v) (λ m. presented a k m (get m.0 a.instance))
parts_stand rules run names indexes a k pattern_properties v = all_flat _ _ (members a.instance) (λ m. all_map _ _ (filter (λ p. rules.matches p.0 m.0) (members v)) (λ e. refl))
parts_stand rules run names indexes a k additional_properties v = all_map _ _ (filter (λ m. not (is_taken rules a m.0)) (members a.instance)) (λ e. refl)
parts_stand rules run names indexes a k property_names v = all_map _ _ (members a.instance) (λ e. refl)
parts_stand rules run names indexes a k unevaluated_items v = all_map _ _ (filter (λ e. not (list_any (λ i. i == e.0) indexes)) (enumerate_from 0 (elements a.instance))) (λ e. refl)
parts_stand rules run names indexes a k unevaluated_properties v = all_map _ _ (filter (λ m. not (has m.0 names)) (members a.instance)) (λ e. refl)
parts_stand rules run names indexes a k declares v = refl

pub names_of_use : (rules : Rules) (run : Application → Outcome) → Quiet run → (names : List Text) (indexes : List ℕ) (a : Application) (k : Text) (m : Meaning) (v : Value)
    → (if evaluates m then flat_map (λ (o : Part × Outcome). names_from o.0 o.1) (map (λ e. (e.0, run e.1)) (keyword_applications rules run names indexes a k m v)) else []) ≡ evaluated_names m (map (λ e. (e.0, run e.1)) (keyword_applications rules run names indexes a k m v))
names_of_use rules run quiet names indexes a k (asserts assertion) v = refl
names_of_use rules run quiet names indexes a k matches_pattern v = refl
names_of_use rules run quiet names indexes a k refers v = names_law run quiet true (keyword_applications rules run names indexes a k refers v) (parts_stand rules run names indexes a k refers v)
names_of_use rules run quiet names indexes a k refers_dynamically v = names_law run quiet true (keyword_applications rules run names indexes a k refers_dynamically v) (parts_stand rules run names indexes a k refers_dynamically v)
names_of_use rules run quiet names indexes a k all_of v = names_law run quiet true (keyword_applications rules run names indexes a k all_of v) (parts_stand rules run names indexes a k all_of v)
names_of_use rules run quiet names indexes a k any_of v = names_law run quiet true (keyword_applications rules run names indexes a k any_of v) (parts_stand rules run names indexes a k any_of v)
names_of_use rules run quiet names indexes a k one_of v = names_law run quiet true (keyword_applications rules run names indexes a k one_of v) (parts_stand rules run names indexes a k one_of v)
names_of_use rules run quiet names indexes a k negation v = refl
names_of_use rules run quiet names indexes a k condition v = names_law run quiet true (keyword_applications rules run names indexes a k condition v) (parts_stand rules run names indexes a k condition v)
names_of_use rules run quiet names indexes a k (consequence wanted) v = names_law run quiet true (keyword_applications rules run names indexes a k (consequence wanted) v) (parts_stand rules run names indexes a k (consequence wanted) v)
names_of_use rules run quiet names indexes a k dependent_schemas v = names_law run quiet true (keyword_applications rules run names indexes a k dependent_schemas v) (parts_stand rules run names indexes a k dependent_schemas v)
names_of_use rules run quiet names indexes a k prefix_items v = names_law run quiet false (keyword_applications rules run names indexes a k prefix_items v) (parts_stand rules run names indexes a k prefix_items v)
names_of_use rules run quiet names indexes a k items v = names_law run quiet false (keyword_applications rules run names indexes a k items v) (parts_stand rules run names indexes a k items v)
names_of_use rules run quiet names indexes a k contains v = names_law run quiet false (keyword_applications rules run names indexes a k contains v) (parts_stand rules run names indexes a k contains v)
names_of_use rules run quiet names indexes a k min_contains v = refl
names_of_use rules run quiet names indexes a k max_contains v = refl
names_of_use rules run quiet names indexes a k properties v = names_law run quiet false (keyword_applications rules run names indexes a k properties v) (parts_stand rules run names indexes a k properties v)
names_of_use rules run quiet names indexes a k pattern_properties v = names_law run quiet false (keyword_applications rules run names indexes a k pattern_properties v) (parts_stand rules run names indexes a k pattern_properties v)
names_of_use rules run quiet names indexes a k additional_properties v = names_law run quiet false (keyword_applications rules run names indexes a k additional_properties v) (parts_stand rules run names indexes a k additional_properties v)
names_of_use rules run quiet names indexes a k property_names v = names_nothing run (λ m. m.0) (λ m. (at_part a (k ∷ []) v (name_of m.0) (string m.0)).1) (members a.instance)
names_of_use rules run quiet names indexes a k unevaluated_items v = names_law run quiet false (keyword_applications rules run names indexes a k unevaluated_items v) (parts_stand rules run names indexes a k unevaluated_items v)
names_of_use rules run quiet names indexes a k unevaluated_properties v = names_law run quiet false (keyword_applications rules run names indexes a k unevaluated_properties v) (parts_stand rules run names indexes a k unevaluated_properties v)
names_of_use rules run quiet names indexes a k declares v = refl

pub indexes_of_use : (rules : Rules) (run : Application → Outcome) → Quiet run → (names : List Text) (indexes : List ℕ) (a : Application) (k : Text) (m : Meaning) (v : Value)
    → (if evaluates m then flat_map (λ (o : Part × Outcome). indexes_from m o.0 o.1) (map (λ e. (e.0, run e.1)) (keyword_applications rules run names indexes a k m v)) else []) ≡ evaluated_indexes m (map (λ e. (e.0, run e.1)) (keyword_applications rules run names indexes a k m v))
indexes_of_use rules run quiet names indexes a k (asserts assertion) v = refl
indexes_of_use rules run quiet names indexes a k matches_pattern v = refl
indexes_of_use rules run quiet names indexes a k refers v = indexes_law run quiet refers refl true (keyword_applications rules run names indexes a k refers v) (parts_stand rules run names indexes a k refers v)
indexes_of_use rules run quiet names indexes a k refers_dynamically v = indexes_law run quiet refers_dynamically refl true (keyword_applications rules run names indexes a k refers_dynamically v) (parts_stand rules run names indexes a k refers_dynamically v)
indexes_of_use rules run quiet names indexes a k all_of v = indexes_law run quiet all_of refl true (keyword_applications rules run names indexes a k all_of v) (parts_stand rules run names indexes a k all_of v)
indexes_of_use rules run quiet names indexes a k any_of v = indexes_law run quiet any_of refl true (keyword_applications rules run names indexes a k any_of v) (parts_stand rules run names indexes a k any_of v)
indexes_of_use rules run quiet names indexes a k one_of v = indexes_law run quiet one_of refl true (keyword_applications rules run names indexes a k one_of v) (parts_stand rules run names indexes a k one_of v)
indexes_of_use rules run quiet names indexes a k negation v = refl
indexes_of_use rules run quiet names indexes a k condition v = indexes_law run quiet condition refl true (keyword_applications rules run names indexes a k condition v) (parts_stand rules run names indexes a k condition v)
indexes_of_use rules run quiet names indexes a k (consequence wanted) v = indexes_law run quiet (consequence wanted) refl true (keyword_applications rules run names indexes a k (consequence wanted) v) (parts_stand rules run names indexes a k (consequence wanted) v)
indexes_of_use rules run quiet names indexes a k dependent_schemas v = indexes_law run quiet dependent_schemas refl true (keyword_applications rules run names indexes a k dependent_schemas v) (parts_stand rules run names indexes a k dependent_schemas v)
indexes_of_use rules run quiet names indexes a k prefix_items v = indexes_law run quiet prefix_items refl false (keyword_applications rules run names indexes a k prefix_items v) (parts_stand rules run names indexes a k prefix_items v)
indexes_of_use rules run quiet names indexes a k items v = indexes_law run quiet items refl false (keyword_applications rules run names indexes a k items v) (parts_stand rules run names indexes a k items v)
indexes_of_use rules run quiet names indexes a k contains v = indexes_found run (keyword_applications rules run names indexes a k contains v) (parts_stand rules run names indexes a k contains v)
indexes_of_use rules run quiet names indexes a k min_contains v = refl
indexes_of_use rules run quiet names indexes a k max_contains v = refl
indexes_of_use rules run quiet names indexes a k properties v = indexes_law run quiet properties refl false (keyword_applications rules run names indexes a k properties v) (parts_stand rules run names indexes a k properties v)
indexes_of_use rules run quiet names indexes a k pattern_properties v = indexes_law run quiet pattern_properties refl false (keyword_applications rules run names indexes a k pattern_properties v) (parts_stand rules run names indexes a k pattern_properties v)
indexes_of_use rules run quiet names indexes a k additional_properties v = indexes_law run quiet additional_properties refl false (keyword_applications rules run names indexes a k additional_properties v) (parts_stand rules run names indexes a k additional_properties v)
indexes_of_use rules run quiet names indexes a k property_names v = indexes_law run quiet property_names refl false (keyword_applications rules run names indexes a k property_names v) (parts_stand rules run names indexes a k property_names v)
indexes_of_use rules run quiet names indexes a k unevaluated_items v = indexes_law run quiet unevaluated_items refl false (keyword_applications rules run names indexes a k unevaluated_items v) (parts_stand rules run names indexes a k unevaluated_items v)
indexes_of_use rules run quiet names indexes a k unevaluated_properties v = indexes_law run quiet unevaluated_properties refl false (keyword_applications rules run names indexes a k unevaluated_properties v) (parts_stand rules run names indexes a k unevaluated_properties v)
indexes_of_use rules run quiet names indexes a k declares v = refl

-- what passes reports no error, and what fails annotates nothing
kept_failed : (b : Bool) (e : Part × Outcome) (us : List OutputUnit) (os : List (Part × Outcome)) → (b ≡ true → e.1.errors ≡ []) → us ≡ flat_map (λ (o : Part × Outcome). o.1.errors) os
    → e.1.errors ++ us ≡ flat_map (λ (o : Part × Outcome). o.1.errors) (cond (not b) (e ∷ os) os)
kept_failed true e us os none rest = ap₂ (λ us vs. us ++ vs) (none refl) rest
kept_failed false e us os none rest = ap (λ us. e.1.errors ++ us) rest

pub errors_of_failed : (run : Application → Outcome) → ((a : Application) → (run a).valid ≡ true → (run a).errors ≡ []) → (es : List (Part × Application))
    → flat_map (λ (o : Part × Outcome). o.1.errors) (map (λ e. (e.0, run e.1)) es) ≡ flat_map (λ (o : Part × Outcome). o.1.errors) (outcomes_that_fail (map (λ e. (e.0, run e.1)) es))
errors_of_failed run none [] = refl
errors_of_failed run none (e ∷ es) = kept_failed (run e.1).valid (e.0, run e.1) _ (outcomes_that_fail (ran run es)) (none e.1) (errors_of_failed run none es)

pub annotations_of_passed : (run : Application → Outcome) → ((a : Application) → (run a).valid ≡ false → (run a).annotations ≡ []) → (es : List (Part × Application))
    → flat_map (λ (o : Part × Outcome). o.1.annotations) (map (λ e. (e.0, run e.1)) es) ≡ flat_map (λ (o : Part × Outcome). o.1.annotations) (outcomes_that_pass (map (λ e. (e.0, run e.1)) es))
annotations_of_passed run none [] = refl
annotations_of_passed run none (e ∷ es) = kept_if (run e.1).valid (λ o. o.1.annotations) (e.0, run e.1) (run e.1).annotations _ (outcomes_that_pass (ran run es)) refl (none e.1) (annotations_of_passed run none es)

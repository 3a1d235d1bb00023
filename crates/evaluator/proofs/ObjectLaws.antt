-- Laws of what a schema object says: its keywords in groups, those that look at what others evaluated, and those that
-- only declare.
use Rattle.std.proofs.Common.{◌≡◌, ℕ, List, [], ◌∷◌, ◌++◌, Bool, true, false, ◌&&◌, ◌||◌, not, Option, Some, None, refl, sym, ap, ◌∙◌, arith, append-nil, codes, flat_map, sum_by, filter, map}
use Rattle.std.proofs.Math.Bool.{and-true, or-false}
use Rattle.std.specs.List.{list_all, list_any}
use Rattle.std.proofs.lemmas.Grind.{flat_map-append}
use Rattle.std.proofs.lemmas.List.Sums.{sum_by-append}
use Rattle.std.proofs.lemmas.List.Folds.{list_all-append, list_any-append}
use Rattle.definitions.specs.Values.{Text, Value, get}
use Rattle.definitions.specs.Keywords as table
use Rattle.definitions.specs.Keywords.{keywords, looks_at_evaluated, row, declares}
use Rattle.definitions.specs.Shapes.{Shape, schema_map, one_schema, identifier, anchor_name, dialect}
use Rattle.definitions.specs.Applied.{Application, Outcome, Rules, application_within}
use Rattle.definitions.specs.Outcomes.{Use, object_outcome, outcome_of_uses, use_annotations, use_errors, uses_by_keyword, uses_of}
use Rattle.linker.specs.declared.linked.Linked.{Linked}
use Rattle.keywords.specs.Rows.{row_of}
use Rattle.keyword_plans.specs.ObjectApplications.{linked_rules}
use Rattle.keywords.specs.declared.keyword.Keyword.TheVariants.{UnevaluatedItems, UnevaluatedProperties}
use Rattle.evaluation_log.specs.Tallies.{uses_tally}
use Rattle.evaluator.specs.Groups.{first_groups, rows_of}
use Rattle.keywords.specs.Groups.{group_number, groups_before, in_order}
use Rattle.evaluator.specs.Rounds.{groups_uses, linked_outcome, object_uses, unevaluated_uses}

-- ---- uses that say nothing
pub record Idle (a : Application) (us : List Use) : Type 0 where
  pub passes : list_all (λ u. u.passes) us ≡ true
  pub names : flat_map (λ u. u.names) us ≡ []
  pub indexes : flat_map (λ u. u.indexes) us ≡ []
  pub errors : flat_map (use_errors a) us ≡ []
  pub annotations : flat_map (use_annotations a) us ≡ []
  pub count : (uses_tally us).count ≡ 0
  pub looped : list_any (λ u. list_any (λ o. o.1.looped) u.outcomes) us ≡ false
  pub deep : list_any (λ u. list_any (λ o. o.1.deep) u.outcomes) us ≡ false

without_some : {X : Type 0} (f : Use → List X) (us ds : List Use) → flat_map f ds ≡ [] → flat_map f (us ++ ds) ≡ flat_map f us
without_some f us ds e = flat_map-append f us ds ∙ ap (λ l. flat_map f us ++ l) e ∙ append-nil (flat_map f us)

without_between : {X : Type 0} (f : Use → List X) (us ds vs : List Use) → flat_map f ds ≡ [] → flat_map f ((us ++ ds) ++ vs) ≡ flat_map f (us ++ vs)
without_between f us ds vs e =
    flat_map-append f (us ++ ds) vs ∙ ap (λ l. l ++ flat_map f vs) (without_some f us ds e) ∙ sym (flat_map-append f us vs)

all_between : (p : Use → Bool) (us ds vs : List Use) → list_all p ds ≡ true → list_all p ((us ++ ds) ++ vs) ≡ list_all p (us ++ vs)
all_between p us ds vs e =
    list_all-append p (us ++ ds) vs ∙ ap (λ b. b && list_all p vs) (list_all-append p us ds ∙ ap (λ b. list_all p us && b) e ∙ and-true (list_all p us))
    ∙ sym (list_all-append p us vs)

any_between : (p : Use → Bool) (us ds vs : List Use) → list_any p ds ≡ false → list_any p ((us ++ ds) ++ vs) ≡ list_any p (us ++ vs)
any_between p us ds vs e =
    list_any-append p (us ++ ds) vs ∙ ap (λ b. b || list_any p vs) (list_any-append p us ds ∙ ap (λ b. list_any p us || b) e ∙ or-false (list_any p us))
    ∙ sym (list_any-append p us vs)

sum_between : (f : Use → ℕ) (us ds vs : List Use) → sum_by f ds ≡ 0 → sum_by f ((us ++ ds) ++ vs) ≡ sum_by f (us ++ vs)
sum_between f us ds vs e = omega (arith, sum_by-append f (us ++ ds) vs, sum_by-append f us ds, sum_by-append f us vs, e)

combined_same : (a : Application) (us vs : List Use) → list_all (λ u. u.passes) us ≡ list_all (λ u. u.passes) vs
    → flat_map (λ u. u.names) us ≡ flat_map (λ u. u.names) vs → flat_map (λ u. u.indexes) us ≡ flat_map (λ u. u.indexes) vs
    → flat_map (use_errors a) us ≡ flat_map (use_errors a) vs → flat_map (use_annotations a) us ≡ flat_map (use_annotations a) vs
    → (uses_tally us).count ≡ (uses_tally vs).count
    → list_any (λ u. list_any (λ o. o.1.looped) u.outcomes) us ≡ list_any (λ u. list_any (λ o. o.1.looped) u.outcomes) vs
    → list_any (λ u. list_any (λ o. o.1.deep) u.outcomes) us ≡ list_any (λ u. list_any (λ o. o.1.deep) u.outcomes) vs
    → outcome_of_uses a us ≡ outcome_of_uses a vs
combined_same a us vs p n i e u c l d = rw (p, n, i, e, u, c, l, d) refl

pub idle_between : (a : Application) (us ds vs : List Use) → Idle a ds → outcome_of_uses a ((us ++ ds) ++ vs) ≡ outcome_of_uses a (us ++ vs)
idle_between a us ds vs h =
    combined_same a ((us ++ ds) ++ vs) (us ++ vs)
    (all_between (λ u. u.passes) us ds vs h.passes)
    (without_between (λ u. u.names) us ds vs h.names)
    (without_between (λ u. u.indexes) us ds vs h.indexes)
    (without_between (use_errors a) us ds vs h.errors)
    (without_between (use_annotations a) us ds vs h.annotations)
    (sum_between _ us ds vs h.count)
    (any_between _ us ds vs h.looped)
    (any_between _ us ds vs h.deep)

-- ---- keywords that only declare
no_uses : (a : Application) → Idle a []
no_uses a = record { passes = refl; names = refl; indexes = refl; errors = refl; annotations = refl; count = refl; looped = refl; deep = refl }

declared_first : (rules : Rules) (run : Application → Outcome) (names : List Text) (indexes : List ℕ) (a b : Application) (name : Text) (shape : Shape) (v : Option Value) (us : List Use)
    → Idle a us → Idle a (uses_by_keyword rules run names indexes b (row name shape declares) v ++ us)
declared_first rules run names indexes a b name shape None us h = h
declared_first rules run names indexes a b name shape (Some v) us h = record {
  passes = h.passes;
  names = h.names;
  indexes = h.indexes;
  errors = h.errors;
  annotations = h.annotations;
  count = h.count;
  looped = h.looped;
  deep = h.deep;
}

abbrev declaring : List (Text × Shape) → List table.Keyword
declaring es = map (λ e. row e.0 e.1 declares) es

abbrev declared_names : List (Text × Shape)
declared_names =
    (codes "$defs", schema_map) ∷ (codes "definitions", schema_map) ∷ (codes "contentSchema", one_schema) ∷ (codes "$id", identifier)
    ∷ (codes "$anchor", anchor_name) ∷ (codes "$dynamicAnchor", anchor_name) ∷ (codes "$schema", dialect) ∷ []

abbrev declared_rows : List table.Keyword
declared_rows = declaring declared_names

declaring_idle : (rules : Rules) (run : Application → Outcome) (names : List Text) (indexes : List ℕ) (a b : Application) (es : List (Text × Shape))
    → Idle a (uses_of rules run (declaring es) names indexes b)
declaring_idle rules run names indexes a b [] = no_uses a
declaring_idle rules run names indexes a b (e ∷ es) =
    declared_first rules run names indexes a b e.0 e.1 (get e.0 b.schema.value) (uses_of rules run (declaring es) names indexes b)
    (declaring_idle rules run names indexes a b es)

-- ---- keywords in groups
grouped_rows : filter (λ k. not (looks_at_evaluated k.meaning)) keywords ≡ flat_map rows_of first_groups ++ declared_rows
unfolding first_groups group_number groups_before in_order
grouped_rows = refl

unevaluated_rows : filter (λ k. looks_at_evaluated k.meaning) keywords ≡ row_of UnevaluatedItems ∷ row_of UnevaluatedProperties ∷ []
unevaluated_rows = refl

flat_map_twice : {X Y Z : Type 0} (f : Y → List Z) (g : X → List Y) (xs : List X) → flat_map f (flat_map g xs) ≡ flat_map (λ x. flat_map f (g x)) xs
flat_map_twice f g [] = refl
flat_map_twice f g (x ∷ xs) = flat_map-append f (g x) (flat_map g xs) ∙ ap (λ l. flat_map f (g x) ++ l) (flat_map_twice f g xs)

grouped_uses : (l : Linked) (left : ℕ) (b : Application)
    → uses_of (linked_rules l) (linked_outcome l left) (filter (λ k. not (looks_at_evaluated k.meaning)) keywords) [] [] b
    ≡ groups_uses l left b first_groups ++ uses_of (linked_rules l) (linked_outcome l left) declared_rows [] [] b
grouped_uses l left b =
    let uses = λ (k : table.Keyword). uses_by_keyword (linked_rules l) (linked_outcome l left) [] [] b k (get k.name b.schema.value) in
    ap (flat_map uses) grouped_rows ∙ flat_map-append uses (flat_map rows_of first_groups) declared_rows
    ∙ ap (λ us. us ++ flat_map uses declared_rows) (flat_map_twice uses rows_of first_groups)

-- a schema object: its groups, and then what looks at what they evaluated
pub object_by_groups : (l : Linked) (left : ℕ) (a : Application) → object_outcome (linked_rules l) (linked_outcome l left) a ≡ outcome_of_uses a (object_uses l left (application_within a))
unfolding object_outcome object_uses
object_by_groups l left a =
    let here = application_within a in
    let gs = groups_uses l left here first_groups in
    let ds = uses_of (linked_rules l) (linked_outcome l left) declared_rows [] [] here in
    let idle = declaring_idle (linked_rules l) (linked_outcome l left) [] [] a here declared_names in
    ap (λ rows. outcome_of_uses a (uses_of (linked_rules l) (linked_outcome l left) (filter (λ k. not (looks_at_evaluated k.meaning)) keywords) [] [] here
    ++ uses_of (linked_rules l) (linked_outcome l left) rows
    (flat_map (λ u. u.names) (uses_of (linked_rules l) (linked_outcome l left) (filter (λ k. not (looks_at_evaluated k.meaning)) keywords) [] [] here))
    (flat_map (λ u. u.indexes) (uses_of (linked_rules l) (linked_outcome l left) (filter (λ k. not (looks_at_evaluated k.meaning)) keywords) [] [] here)) here)) unevaluated_rows
    ∙ ap (λ us. outcome_of_uses a (us ++ unevaluated_uses l left here us)) (grouped_uses l left here)
    ∙ ap (λ names. outcome_of_uses a ((gs ++ ds) ++ uses_of (linked_rules l) (linked_outcome l left) (row_of UnevaluatedItems ∷ row_of UnevaluatedProperties ∷ []) names (flat_map (λ u. u.indexes) (gs ++ ds)) here))
    (without_some (λ u. u.names) gs ds idle.names)
    ∙ ap (λ indexes. outcome_of_uses a ((gs ++ ds) ++ uses_of (linked_rules l) (linked_outcome l left) (row_of UnevaluatedItems ∷ row_of UnevaluatedProperties ∷ []) (flat_map (λ u. u.names) gs) indexes here))
    (without_some (λ u. u.indexes) gs ds idle.indexes)
    ∙ idle_between a gs ds (unevaluated_uses l left here gs) idle

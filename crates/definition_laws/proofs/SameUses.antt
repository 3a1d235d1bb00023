-- Uses of keywords that count for the same.
use Rattle.std.proofs.Common.{◌≡◌, ◌&&◌, ◌||◌, ◌++◌, ◌+◌, ℕ, List, [], ◌∷◌, true, false, cond, Option, Some, None, codes, refl, sym, ap, ap₂, subst, ◌∙◌}
use Rattle.std.proofs.lemmas.Grind.{flat_map-append}
use Rattle.std.proofs.lemmas.List.Folds.{list_all-append, list_any-append}
use Rattle.std.proofs.lemmas.List.Sums.{sum_by-append}
use Rattle.std.specs.List.{flat_map, list_any, list_all, sum_by}
use Rattle.definitions.specs.Values.{Text, Value, string}
use Rattle.definitions.specs.Alike.{IsAlikeSchema}
use Rattle.definitions.specs.Keywords.{Keyword, row, declares}
use Rattle.definitions.specs.Schemas.{Schema}
use Rattle.definitions.specs.Applied.{Application, Outcome, Rules}
use Rattle.definitions.specs.Evaluated.{outcomes_that_fail, outcomes_that_pass}
use Rattle.definitions.specs.Outcomes.{Use, unit, own_annotation, use_annotations, use_errors, uses_by_keyword}
use Rattle.definition_laws.proofs.Targets.{alike_resource, alike_pointer}
use Rattle.definition_laws.proofs.Applying.{of_schema}

-- ---- what counts of uses
pub record AreSameUses (a b : Application) (us vs : List Use) : Type 0 where
  pub passes : list_all (λ u. u.passes) vs ≡ list_all (λ u. u.passes) us
  pub names : flat_map (λ u. u.names) vs ≡ flat_map (λ u. u.names) us
  pub indexes : flat_map (λ u. u.indexes) vs ≡ flat_map (λ u. u.indexes) us
  pub errors : flat_map (use_errors b) vs ≡ flat_map (use_errors a) us
  pub annotations : flat_map (use_annotations b) vs ≡ flat_map (use_annotations a) us
  pub count : sum_by (λ u. sum_by (λ o. o.1.count) u.outcomes) vs ≡ sum_by (λ u. sum_by (λ o. o.1.count) u.outcomes) us
  pub looped : list_any (λ u. list_any (λ o. o.1.looped) u.outcomes) vs ≡ list_any (λ u. list_any (λ o. o.1.looped) u.outcomes) us
  pub deep : list_any (λ u. list_any (λ o. o.1.deep) u.outcomes) vs ≡ list_any (λ u. list_any (λ o. o.1.deep) u.outcomes) us

pub same_append : (a b : Application) (us vs xs ys : List Use) → AreSameUses a b us vs → AreSameUses a b xs ys → AreSameUses a b (us ++ xs) (vs ++ ys)
same_append a b us vs xs ys h k = record {
  passes = list_all-append (λ u. u.passes) vs ys ∙ ap₂ (λ p q. p && q) h.passes k.passes ∙ sym (list_all-append (λ u. u.passes) us xs);
  names = flat_map-append (λ u. u.names) vs ys ∙ ap₂ (λ p q. p ++ q) h.names k.names ∙ sym (flat_map-append (λ u. u.names) us xs);
  indexes = flat_map-append (λ u. u.indexes) vs ys ∙ ap₂ (λ p q. p ++ q) h.indexes k.indexes ∙ sym (flat_map-append (λ u. u.indexes) us xs);
  errors = flat_map-append (use_errors b) vs ys ∙ ap₂ (λ p q. p ++ q) h.errors k.errors ∙ sym (flat_map-append (use_errors a) us xs);
  annotations = flat_map-append (use_annotations b) vs ys ∙ ap₂ (λ p q. p ++ q) h.annotations k.annotations ∙ sym (flat_map-append (use_annotations a) us xs);
  count =
      sum_by-append (λ u. sum_by (λ o. o.1.count) u.outcomes) vs ys ∙ ap₂ (λ p q. p + q) h.count k.count
      ∙ sym (sum_by-append (λ u. sum_by (λ o. o.1.count) u.outcomes) us xs);
  looped =
      list_any-append (λ u. list_any (λ o. o.1.looped) u.outcomes) vs ys ∙ ap₂ (λ p q. p || q) h.looped k.looped
      ∙ sym (list_any-append (λ u. list_any (λ o. o.1.looped) u.outcomes) us xs);
  deep =
      list_any-append (λ u. list_any (λ o. o.1.deep) u.outcomes) vs ys ∙ ap₂ (λ p q. p || q) h.deep k.deep
      ∙ sym (list_any-append (λ u. list_any (λ o. o.1.deep) u.outcomes) us xs);
}

-- ---- units of alike schemas
pub unit_same : (a : Application) (t : Schema) (k : Text) (says : Value) → IsAlikeSchema a.schema t → unit (of_schema a t) k says ≡ unit a k says
unit_same a t k says h =
    ap₂ (λ r p. record { path = a.path ++ k ∷ []; resource = r; pointer = p ++ k ∷ []; instance_location = a.instance_location.pointer; says = says }) (alike_resource a.schema t h) (alike_pointer a.schema t h)

errors_same : (a : Application) (t : Schema) → IsAlikeSchema a.schema t → (u : Use) → use_errors (of_schema a t) u ≡ use_errors a u
errors_same a t h u = ap (λ x. cond u.passes [] (x ∷ flat_map (λ o. o.1.errors) (outcomes_that_fail u.outcomes))) (unit_same a t u.keyword (string (u.keyword ++ codes " is not met")) h)

annotations_same : (a : Application) (t : Schema) → IsAlikeSchema a.schema t → (u : Use) → use_annotations (of_schema a t) u ≡ use_annotations a u
annotations_same a t h u = ap (λ x. x ++ cond u.annotates (flat_map (λ o. o.1.annotations) (outcomes_that_pass u.outcomes)) []) (by u.annotation)
  where
    by : (o : Option Value) → own_annotation (of_schema a t) u o ≡ own_annotation a u o
    by None = refl
    by (Some v) = ap (λ x. x ∷ []) (unit_same a t u.keyword v h)

flat_map_same : {X Y : Type 0} (f g : X → List Y) (xs : List X) → ((x : X) → f x ≡ g x) → flat_map f xs ≡ flat_map g xs
flat_map_same f g [] h = refl
flat_map_same f g (x ∷ xs) h = ap₂ (λ y z. y ++ z) (h x) (flat_map_same f g xs h)

pub equal_same : (a : Application) (t : Schema) → IsAlikeSchema a.schema t → (us vs : List Use) → vs ≡ us → AreSameUses a (of_schema a t) us vs
equal_same a t h us vs e = record {
  passes = ap (list_all (λ u. u.passes)) e;
  names = ap (flat_map (λ u. u.names)) e;
  indexes = ap (flat_map (λ u. u.indexes)) e;
  errors = ap (flat_map (use_errors (of_schema a t))) e ∙ flat_map_same (use_errors (of_schema a t)) (use_errors a) us (errors_same a t h);
  annotations = ap (flat_map (use_annotations (of_schema a t))) e ∙ flat_map_same (use_annotations (of_schema a t)) (use_annotations a) us (annotations_same a t h);
  count = ap (sum_by (λ u. sum_by (λ o. o.1.count) u.outcomes)) e;
  looped = ap (list_any (λ u. list_any (λ o. o.1.looped) u.outcomes)) e;
  deep = ap (list_any (λ u. list_any (λ o. o.1.deep) u.outcomes)) e;
}

-- ---- a keyword that only declares counts for nothing
pub record IsNothing (us : List Use) : Type 0 where
  pub passes : list_all (λ u. u.passes) us ≡ true
  pub names : flat_map (λ u. u.names) us ≡ []
  pub indexes : flat_map (λ u. u.indexes) us ≡ []
  pub errors : (a : Application) → flat_map (use_errors a) us ≡ []
  pub annotations : (a : Application) → flat_map (use_annotations a) us ≡ []
  pub count : sum_by (λ u. sum_by (λ o. o.1.count) u.outcomes) us ≡ 0
  pub looped : list_any (λ u. list_any (λ o. o.1.looped) u.outcomes) us ≡ false
  pub deep : list_any (λ u. list_any (λ o. o.1.deep) u.outcomes) us ≡ false

pub declared_nothing : (rules : Rules) (run : Application → Outcome) (names : List Text) (indexes : List ℕ) (a : Application) (k : Keyword) (o : Option Value) → k.meaning ≡ declares
    → IsNothing (uses_by_keyword rules run names indexes a k o)
declared_nothing rules run names indexes a k None e = record {
  passes = refl;
  names = refl;
  indexes = refl;
  errors = λ b. refl;
  annotations = λ b. refl;
  count = refl;
  looped = refl;
  deep = refl;
}
declared_nothing rules run names indexes a k (Some v) e =
    subst (λ m. IsNothing (uses_by_keyword rules run names indexes a (row k.name k.shape m) (Some v))) (sym e)
    (record { passes = refl; names = refl; indexes = refl; errors = λ b. refl; annotations = λ b. refl; count = refl; looped = refl; deep = refl })

pub nothing_same : (a b : Application) (us vs : List Use) → IsNothing us → IsNothing vs → AreSameUses a b us vs
nothing_same a b us vs h k = record {
  passes = k.passes ∙ sym h.passes;
  names = k.names ∙ sym h.names;
  indexes = k.indexes ∙ sym h.indexes;
  errors = k.errors b ∙ sym (h.errors a);
  annotations = k.annotations b ∙ sym (h.annotations a);
  count = k.count ∙ sym h.count;
  looped = k.looped ∙ sym h.looped;
  deep = k.deep ∙ sym h.deep;
}

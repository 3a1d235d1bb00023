-- What a keyword annotates with, read off what it evaluated.
use Rattle.std.proofs.Common.{◌≡◌, ℕ, suc, ◌-◌, ◌==◌, List, [], ◌∷◌, ◌++◌, Bool, true, false, cond, Option, Some, None, length, get_or, filter, flat_map, map, refl, sym, ap, ◌∙◌, arith, not, zip, decimal, append-nil}
use Rattle.std.proofs.lemmas.Bool.Decides.{nat_tests}
use Rattle.std.specs.List.{AllByRecursion, enumerate_from}
use Rattle.definitions.specs.Values.{Text, Value, get, members, elements}
use Rattle.definitions.specs.Applied.{Application, Outcome, Part, Rules, named, indexed, at_present, at_part, keyword_applications, is_taken, has}
use Rattle.definitions.specs.Keywords.{Meaning, properties, pattern_properties, additional_properties, unevaluated_properties, prefix_items}
use Rattle.definitions.specs.Evaluated.{evaluated_names, evaluated_indexes, part_names, part_indexes, outcomes_that_pass, is_in_place, last_index, value_if_any_apply}

-- ---- what is applied to no whole instance evaluates nothing but its parts
abbrev pub NoneWhole : List (Part × Application) → Type 0
NoneWhole es = AllByRecursion (λ e. is_in_place e.0 ≡ false) es

abbrev outs : (Application → Outcome) → List (Part × Application) → List (Part × Outcome)
outs run es = map (λ e. (e.0, run e.1)) es

abbrev from_whole : {X : Type 0} → (Outcome → List X) → List (Part × Outcome) → List X
from_whole of os = flat_map (λ o. cond (is_in_place o.0) (of o.1) []) os

whole-first : {X : Type 0} (of : Outcome → List X) (p : Part) (o : Outcome) (os : List (Part × Outcome)) (b : Bool) → is_in_place p ≡ false → from_whole of os ≡ [] → from_whole of (cond b ((p, o) ∷ os) os) ≡ []
whole-first of p o os true h rest = ap (λ b. cond b (of o) [] ++ from_whole of os) h ∙ rest
whole-first of p o os false h rest = rest

none-whole : {X : Type 0} (of : Outcome → List X) (run : Application → Outcome) (es : List (Part × Application)) → NoneWhole es → from_whole of (outcomes_that_pass (outs run es)) ≡ []
none-whole of run [] h = refl
none-whole of run (e ∷ es) h = whole-first of e.0 (run e.1) (outcomes_that_pass (outs run es)) (run e.1).valid h.0 (none-whole of run es h.1)

pub names-of_parts : (run : Application → Outcome) (es : List (Part × Application)) → NoneWhole es
    → part_names (outs run es) ++ from_whole (λ o. o.names) (outcomes_that_pass (outs run es)) ≡ part_names (outs run es)
names-of_parts run es h = ap (λ ns. part_names (outs run es) ++ ns) (none-whole (λ o. o.names) run es h) ∙ append-nil (part_names (outs run es))

pub indexes-of_parts : (run : Application → Outcome) (es : List (Part × Application)) → NoneWhole es
    → part_indexes (outs run es) ++ from_whole (λ o. o.indexes) (outcomes_that_pass (outs run es)) ≡ part_indexes (outs run es)
indexes-of_parts run es h = ap (λ ns. part_indexes (outs run es) ++ ns) (none-whole (λ o. o.indexes) run es h) ∙ append-nil (part_indexes (outs run es))

pub none-map : {X : Type 0} (f : X → Part × Application) → ((x : X) → is_in_place (f x).0 ≡ false) → (xs : List X) → NoneWhole (map f xs)
none-map f h [] = tt
none-map f h (x ∷ xs) = (h x, none-map f h xs)

none-append : (es fs : List (Part × Application)) → NoneWhole es → NoneWhole fs → NoneWhole (es ++ fs)
none-append [] fs h g = g
none-append (e ∷ es) fs h g = (h.0, none-append es fs h.1 g)

pub none-flat_map : {X : Type 0} (f : X → List (Part × Application)) → ((x : X) → NoneWhole (f x)) → (xs : List X) → NoneWhole (flat_map f xs)
none-flat_map f h [] = tt
none-flat_map f h (x ∷ xs) = none-append (f x) (flat_map f xs) (h x) (none-flat_map f h xs)

pub none-present : (a : Application) (k : Text) (m : Text × Value) (x : Option Value) → NoneWhole (at_present a k m x)
none-present a k m None = tt
none-present a k m (Some x) = (refl, tt)

-- ---- what the keywords of members and of elements evaluate
module _ (rules : Rules) (run : Application → Outcome) (names : List Text) (indexes : List ℕ) (a : Application) (k : Text) (v : Value) where
  abbrev pub all_of : Meaning → List (Part × Outcome)
  all_of meaning = map (λ e. (e.0, run e.1)) (keyword_applications rules run names indexes a k meaning v)

  abbrev those : Meaning → List (Part × Application)
  those meaning = keyword_applications rules run names indexes a k meaning v

  none-properties : NoneWhole (those properties)
  none-properties = none-flat_map (λ (m : Text × Value). at_present a k m (get m.0 a.instance)) (λ m. none-present a k m (get m.0 a.instance)) (members v)

  none-patterns : NoneWhole (those pattern_properties)
  none-patterns =
      none-flat_map (λ (m : Text × Value). map (λ (p : Text × Value). at_part a (k ∷ p.0 ∷ []) p.1 (named m.0) m.1) (filter (λ (p : Text × Value). rules.matches p.0 m.0) (members v)))
      (λ m. none-map (λ (p : Text × Value). at_part a (k ∷ p.0 ∷ []) p.1 (named m.0) m.1) (λ p. refl) (filter (λ (p : Text × Value). rules.matches p.0 m.0) (members v)))
      (members a.instance)

  none-others : NoneWhole (those additional_properties)
  none-others = none-map (λ (m : Text × Value). at_part a (k ∷ []) v (named m.0) m.1) (λ m. refl) (filter (λ (m : Text × Value). not (is_taken rules a m.0)) (members a.instance))

  none-unevaluated : NoneWhole (those unevaluated_properties)
  none-unevaluated = none-map (λ (m : Text × Value). at_part a (k ∷ []) v (named m.0) m.1) (λ m. refl) (filter (λ (m : Text × Value). not (has m.0 names)) (members a.instance))

  none-prefix : NoneWhole (those prefix_items)
  none-prefix =
      none-map (λ (e : (ℕ × Value) × Value). at_part a (k ∷ decimal (e.0).0 ∷ []) (e.0).1 (indexed (e.0).0) e.1) (λ e. refl)
      (zip (enumerate_from 0 (elements v)) (elements a.instance))

  pub names-properties : evaluated_names properties (all_of properties) ≡ part_names (all_of properties)
  names-properties = names-of_parts run (those properties) none-properties

  pub names-patterns : evaluated_names pattern_properties (all_of pattern_properties) ≡ part_names (all_of pattern_properties)
  names-patterns = names-of_parts run (those pattern_properties) none-patterns

  pub names-others : evaluated_names additional_properties (all_of additional_properties) ≡ part_names (all_of additional_properties)
  names-others = names-of_parts run (those additional_properties) none-others

  pub names-unevaluated : evaluated_names unevaluated_properties (all_of unevaluated_properties) ≡ part_names (all_of unevaluated_properties)
  names-unevaluated = names-of_parts run (those unevaluated_properties) none-unevaluated

  pub indexes-prefix : evaluated_indexes prefix_items (all_of prefix_items) ≡ part_indexes (all_of prefix_items)
  indexes-prefix = indexes-of_parts run (those prefix_items) none-prefix

-- ---- where something was applied
differs : (n m : ℕ) → n ≡ suc m → (n == 0) ≡ false
differs n m e = grind (arith, nat_tests)

pub if_some-by_count : (os : List (Part × Outcome)) (v : Value) (n : ℕ) → n ≡ length os → cond (n == 0) None (Some v) ≡ value_if_any_apply os v
if_some-by_count [] v n e = rw e refl
if_some-by_count (o ∷ os) v n e = ap (λ b. cond b None (Some v)) (differs n (length os) e)

pub last-at : (is : List ℕ) → get_or is (length is - 1) 0 ≡ last_index is
last-at [] = refl
last-at (i ∷ []) = refl
last-at (i ∷ j ∷ is) = ap (λ n. get_or (i ∷ j ∷ is) n 0) (one_less (length is)) ∙ ap (λ n. get_or (j ∷ is) n 0) (sym (none_less (length is))) ∙ last-at (j ∷ is)
  where
    one_less : (n : ℕ) → suc (suc n) - 1 ≡ suc n
    one_less n = omega arith

    none_less : (n : ℕ) → suc n - 1 ≡ n
    none_less n = omega arith

pub last-none : (is : List ℕ) → length is ≡ 0 → 0 ≡ last_index is
last-none [] e = refl
last-none (i ∷ is) e = absurd (omega (arith, e))

-- Laws of the keywords that look at what others evaluated.
use Rattle.std.proofs.Common.{◌≡◌, ℕ, List, [], ◌∷◌, ◌++◌, cond, Bool, true, false, Option, Some, None, refl, sym, ap, ◌∙◌, append-nil, append_assoc, flat_map, filter, map, not}
use Rattle.std.specs.Prelude.{◌==◌}
use Rattle.std.specs.List.{enumerate_from, list_any}
use Rattle.definitions.specs.Values.{Text, Value, elements, get}
use Rattle.definitions.specs.Keywords.{unevaluated_items}
use Rattle.definitions.specs.Applied.{Application, Outcome, Part, at_part, indexed}
use Rattle.definitions.specs.Evaluated.{evaluated_names, is_in_place, outcomes_that_pass, part_names}
use Rattle.definitions.specs.Outcomes.{Use}
use Rattle.linker.specs.declared.linked.Linked.{Linked}
use Rattle.keywords.specs.Rows.{row_of}
use Rattle.keywords.specs.declared.keyword.Keyword.TheVariants.{UnevaluatedItems, UnevaluatedProperties}
use Rattle.evaluator.specs.Findings.{Outcomes}
use Rattle.evaluation_log.specs.Notes.{Notes, notes_of_both, uses_notes}
use Rattle.evaluator.specs.Rounds.{Knows, evaluated_in, indexes_since, keyword_uses, linked_outcome, names_since, two_uses, unevaluated_uses, uses_since, uses_with}
use Rattle.evaluator.specs.declared.siblings.Siblings.{Siblings}
use Rattle.evaluation_log.specs.declared.log.Before.{Before}
use Rattle.evaluation_log.proofs.LogLaws.{rest_list}

-- ---- elements have no names
abbrev at_elements : (Application → Outcome) → Application → Text → Value → List (ℕ × Value) → Outcomes
at_elements run a k v es = map (λ e. (e.0, run e.1)) (map (λ e. at_part a (k ∷ []) v (indexed e.0) e.1) es)

abbrev names_in_place : Part × Outcome → List Text
names_in_place o = cond (is_in_place o.0) o.1.names []

no_part_names : (run : Application → Outcome) (a : Application) (k : Text) (v : Value) (es : List (ℕ × Value)) → part_names (at_elements run a k v es) ≡ []
no_part_names run a k v [] = refl
no_part_names run a k v (e ∷ es) = no_part_names run a k v es

one_more : (b : Bool) (o : Part × Outcome) (os : Outcomes) → is_in_place o.0 ≡ false → flat_map names_in_place os ≡ [] → flat_map names_in_place (cond b (o ∷ os) os) ≡ []
one_more false o os is h = h
one_more true o os is h = ap (λ c. cond c o.1.names [] ++ flat_map names_in_place os) is ∙ h

none_in_place : (run : Application → Outcome) (a : Application) (k : Text) (v : Value) (es : List (ℕ × Value)) → flat_map names_in_place (outcomes_that_pass (at_elements run a k v es)) ≡ []
none_in_place run a k v [] = refl
none_in_place run a k v (e ∷ es) =
    let x = at_part a (k ∷ []) v (indexed e.0) e.1 in
    one_more (run x.1).valid (x.0, run x.1) (outcomes_that_pass (at_elements run a k v es)) refl (none_in_place run a k v es)

no_names : (run : Application → Outcome) (a : Application) (k : Text) (v : Value) (es : List (ℕ × Value)) → evaluated_names unevaluated_items (at_elements run a k v es) ≡ []
no_names run a k v es = ap (λ ns. ns ++ flat_map names_in_place (outcomes_that_pass (at_elements run a k v es))) (no_part_names run a k v es) ∙ none_in_place run a k v es

items_name_nothing : (l : Linked) (left : ℕ) (a : Application) (names : List Text) (indexes : List ℕ) (v : Option Value)
    → flat_map (λ u. u.names) (uses_with l left a UnevaluatedItems names indexes v) ≡ []
items_name_nothing l left a names indexes None = refl
items_name_nothing l left a names indexes (Some v) =
    append-nil _
    ∙ no_names (linked_outcome l left) a (row_of UnevaluatedItems).name v (filter (λ e. not (list_any (λ i. i == e.0) indexes)) (enumerate_from 0 (elements a.instance)))

-- ---- the second doesn't look at indexes
any_indexes : (l : Linked) (left : ℕ) (a : Application) (names : List Text) (is js : List ℕ) (v : Option Value)
    → uses_with l left a UnevaluatedProperties names is v ≡ uses_with l left a UnevaluatedProperties names js v
any_indexes l left a names is js None = refl
any_indexes l left a names is js (Some v) = refl

-- ---- both, after uses
names_after : (a : Application) (before : Before) (older : Notes) (gs : List Use) → before ≡ evaluated_in older
    → names_since before (notes_of_both older (uses_notes a gs)) ≡ flat_map (λ u. u.names) gs
unfolding notes_of_both
names_after a before older gs e = rest_list before.names older.names (flat_map (λ u. u.names) gs) _ (ap (λ (b : Before). b.names) e) refl

indexes_after : (a : Application) (before : Before) (older : Notes) (gs : List Use) → before ≡ evaluated_in older
    → indexes_since before (notes_of_both older (uses_notes a gs)) ≡ flat_map (λ u. u.indexes) gs
unfolding notes_of_both
indexes_after a before older gs e = rest_list before.indexes older.indexes (flat_map (λ u. u.indexes) gs) _ (ap (λ (b : Before). b.indexes) e) refl

names_after_both : (a : Application) (before : Before) (older : Notes) (gs us : List Use) → before ≡ evaluated_in older → flat_map (λ u. u.names) us ≡ []
    → names_since before (notes_of_both (notes_of_both older (uses_notes a gs)) (uses_notes a us)) ≡ flat_map (λ u. u.names) gs
unfolding notes_of_both
names_after_both a before older gs us e none =
    let ns = flat_map (λ (u : Use). u.names) gs in
    let ms = flat_map (λ (u : Use). u.names) us in
    rest_list before.names older.names (ns ++ ms) _ (ap (λ (b : Before). b.names) e) (append_assoc older.names ns ms)
    ∙ ap (λ ls. ns ++ ls) none ∙ append-nil ns

pub both_after : (l : Linked) (left : ℕ) (a : Application) (before : Before) (older : Notes) (gs : List Use) → before ≡ evaluated_in older
    → two_uses l left a UnevaluatedItems UnevaluatedProperties before (notes_of_both older (uses_notes a gs)) ≡ unevaluated_uses l left a gs
both_after l left a before older gs e =
    let n = notes_of_both older (uses_notes a gs) in
    let ns = flat_map (λ (u : Use). u.names) gs in
    let is = flat_map (λ (u : Use). u.indexes) gs in
    let us = uses_since l left a UnevaluatedItems before n in
    let v = get (row_of UnevaluatedProperties).name a.schema.value in
    let none = items_name_nothing l left a (names_since before n) (indexes_since before n) (get (row_of UnevaluatedItems).name a.schema.value) in
    let m = notes_of_both n (uses_notes a us) in
    let first : us ≡ keyword_uses l left a UnevaluatedItems ns is =
    ap (λ names. keyword_uses l left a UnevaluatedItems names (indexes_since before n)) (names_after a before older gs e)
    ∙ ap (keyword_uses l left a UnevaluatedItems ns) (indexes_after a before older gs e) in
    let second : uses_since l left a UnevaluatedProperties before m ≡ keyword_uses l left a UnevaluatedProperties ns is =
    ap (λ names. keyword_uses l left a UnevaluatedProperties names (indexes_since before m)) (names_after_both a before older gs us e none)
    ∙ any_indexes l left a ns (indexes_since before m) is v in
    ap (λ vs. us ++ vs) (second ∙ sym (append-nil (keyword_uses l left a UnevaluatedProperties ns is)))
    ∙ ap (λ ws. ws ++ (keyword_uses l left a UnevaluatedProperties ns is ++ [])) first

-- ---- they ask for nothing that keywords beside say
pub items_know : (l : Linked) (left : ℕ) (a : Application) (siblings : Siblings) → Knows l left a (row_of UnevaluatedItems).meaning siblings
items_know l left a siblings = record { condition = λ is. absurd (cc); containing = λ is. absurd (cc); named = λ is. absurd (cc) }

pub properties_know : (l : Linked) (left : ℕ) (a : Application) (siblings : Siblings) → Knows l left a (row_of UnevaluatedProperties).meaning siblings
properties_know l left a siblings = record { condition = λ is. absurd (cc); containing = λ is. absurd (cc); named = λ is. absurd (cc) }

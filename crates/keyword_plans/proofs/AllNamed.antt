-- Members all of which `properties` names.
use Rattle.std.proofs.Common.{◌≡◌, ◌≤◌, ◌+◌, ℕ, List, [], ◌∷◌, ◌++◌, ◌||◌, Bool, true, length, map, Option, Some, None, Contains, Less, nat_cmp, is_some, unwrap_or, codes, refl, sym, ap, subst, arith}
use Rattle.std.proofs.lemmas.Bool.{and_from, and_parts}
use Rattle.std.proofs.lemmas.Cmp.{nat_list_cmp_total}
use Rattle.std.specs.Cmp.Lexicographic.{slice_cmp}
use Rattle.std.specs.List.{AllByRecursion, list_all, list_any}
use Rattle.std.specs.List.Sorted.{IsStrictlySortedBy}
use Rattle.definitions.specs.Values.{Text, Value, null, boolean, integer, string, array, object, Members, no_members, member, members_list, entry, get, members, are_well_formed_members, is_before}
use Rattle.definitions.specs.Schemas.{Schema}
use Rattle.definition_laws.specs.Identities.{IsDefinite}
use Rattle.definition_laws.proofs.Applying.{get_in}
use Rattle.definition_laws.proofs.Occurrences.{contains_from_in, in_from_contains}
use Rattle.definition_laws.proofs.Places.{definite_members}
use Rattle.definition_laws.proofs.Roots.{table_definite}
use Rattle.lemmas.proofs.Members.{member_parts}
use Rattle.lemmas.proofs.Orders.{is_less}
use Rattle.linker.specs.LinkedDocuments.{linked_documents, linked_schemas}
use Rattle.linker.proofs.Distinct.{compiled_definite, shared_each}
use Rattle.definitions.specs.Patterns.{has_match}
use Rattle.definitions.specs.Applied.{Application, Part, beside, is_taken}
use Rattle.json_doc.specs.Members.{HasNamesInOrder}
use Rattle.linker.specs.declared.linked.Linked.{Linked}
use Rattle.applicators.specs.Applications.{at_schema, planned_at_names}
use Rattle.keyword_plans.specs.Applications.{named_count, planned_others}
use Rattle.keyword_plans.specs.ObjectApplications.{linked_rules}
use Rattle.applicators.proofs.SharedNames.{along_members}

abbrev is_named : List (Text × Value) → Text × Value → Bool
is_named ss m = is_some (entry m.0 ss)

module _ (k : Text) (a : Application) where
  one_more : (m : Text × Value) (us : List (Part × Application)) (n : ℕ) (o : Option Value) → length us ≤ n → length (at_schema a k m o ++ us) ≤ n + 1
  one_more m us n None most = omega (arith, most)
  one_more m us n (Some v) most = omega (arith, most)

  -- at most one for each member
  at_most : (ss ms : List (Text × Value)) → length (planned_at_names k a ss ms) ≤ length ms
  at_most ss [] = omega arith
  at_most ss (m ∷ ms) = let all = one_more m (planned_at_names k a ss ms) (length ms) (entry m.0 ss) (at_most ss ms) in omega (arith, all)

  first_named : (m : Text × Value) (us : List (Part × Application)) (n : ℕ) (o : Option Value) → n + 1 ≤ length (at_schema a k m o ++ us) → length us ≤ n
      → (is_some o ≡ true) × (n ≤ length us)
  first_named m us n None h most = absurd (omega (arith, h, most))
  first_named m us n (Some v) h most = (refl, omega (arith, h))

  -- as many as there are members
  all_named : (ss ms : List (Text × Value)) → length ms ≤ length (planned_at_names k a ss ms) → list_all (is_named ss) ms ≡ true
  all_named ss [] h = refl
  all_named ss (m ∷ ms) h =
      let here = first_named m (planned_at_names k a ss ms) (length ms) (entry m.0 ss) (omega (arith, h)) (at_most ss ms) in
      and_from (is_named ss m) (list_all (is_named ss) ms) here.0 (all_named ss ms here.1)

  others_none : (l : Linked) (v : Value) (ms : List (Text × Value)) → list_all (is_named (members (beside a (codes "properties")))) ms ≡ true
      → planned_others l k a v ms ≡ []
  others_none l v [] all = refl
  others_none l v (m ∷ ms) all =
      let ss = members (beside a (codes "properties")) in
      let parts = and_parts (is_named ss m) (list_all (is_named ss) ms) all in
      let taken : is_taken (linked_rules l) a m.0 ≡ true =
      ap (λ b. b || list_any (λ (p : Text × Value). has_match p.0 m.0) (members (beside a (codes "patternProperties")))) parts.0 in
      rw taken (others_none l v ms parts.1)

-- ---- names of linked documents' values are in order
before_later : (n k : Text) (ms : Members) → slice_cmp nat_cmp n k ≡ Less → is_before k ms ≡ true → is_before n ms ≡ true
before_later n k no_members first later = refl
before_later n k (member j v ms) first later = rw (nat_list_cmp_total.trans n k j first (is_less _ later)) refl

before_each : (n : Text) (ms : Members) → is_before n ms ≡ true → are_well_formed_members ms ≡ true → AllByRecursion (λ k. slice_cmp nat_cmp n k ≡ Less) (map (λ m. m.0) (members_list ms))
before_each n no_members before formed = tt
before_each n (member k v ms) before formed =
    let parts = member_parts k v ms formed in
    let first = is_less _ before in
    (first, before_each n ms (before_later n k ms first parts.0) parts.2)

in_order : (ms : Members) → are_well_formed_members ms ≡ true → HasNamesInOrder (members_list ms)
unfolding IsStrictlySortedBy
in_order no_members formed = tt
in_order (member n v ms) formed = let parts = member_parts n v ms formed in (before_each n ms parts.0 parts.2, in_order ms parts.2)

none_in_order : HasNamesInOrder []
unfolding IsStrictlySortedBy
none_in_order = tt

members_in_order : (v : Value) → IsDefinite v → HasNamesInOrder (members v)
members_in_order null d = none_in_order
members_in_order (boolean b) d = none_in_order
members_in_order (integer i) d = none_in_order
members_in_order (string s) d = none_in_order
members_in_order (array vs) d = none_in_order
members_in_order (object ms) d = in_order ms d.well_formed

linked_definite : (l : Linked) (s : Schema) → Contains (linked_schemas l) s → IsDefinite s.value
unfolding linked_documents
linked_definite l s inside =
    table_definite (linked_documents l) (λ d i. shared_each (λ e. IsDefinite e.value) compiled_definite l.documents.items d (contains_from_in (linked_documents l) d i)) s
    (in_from_contains (linked_schemas l) s inside)

beside_in_order : (k : Text) (a : Application) → IsDefinite a.schema.value → HasNamesInOrder (members (beside a k))
beside_in_order k a d = by (get k a.schema.value) refl where
  by : (o : Option Value) → get k a.schema.value ≡ o → HasNamesInOrder (members (unwrap_or o null))
  by None e = none_in_order
  by (Some v) e = members_in_order v (definite_members a.schema.value k v d (get_in k a.schema.value v e))

-- where it names as many as there are, none is left
pub none_left : (l : Linked) (k : Text) (a : Application) (v : Value) (ms : List (Text × Value)) (n : ℕ) → Contains (linked_schemas l) a.schema
    → members a.instance ≡ ms → HasNamesInOrder ms → n ≤ named_count a → length ms ≤ n → planned_others l k a v ms ≡ []
none_left l k a v ms n inside same ordered most least =
    let ss = members (beside a (codes "properties")) in
    let h = beside_in_order (codes "properties") a (linked_definite l a.schema inside) in
    let count : named_count a ≡ length (planned_at_names (codes "properties") a ss ms) = sym (ap length (along_members (codes "properties") a ss ms same h ordered)) in
    others_none k a l v ms (all_named (codes "properties") a ss ms (subst (λ c. length ms ≤ c) count (omega (arith, most, least))))

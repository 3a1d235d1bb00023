-- Nesting and form of a value, element by element and member by member.
use Rattle.std.proofs.Common.{◌≡◌, ◌≤◌, ◌<◌, ◌&&◌, ℕ, zero, suc, max, min, List, [], ◌∷◌, ◌++◌, map, length, get_or, true, false, Bool, refl, arith}
use Rattle.std.specs.List.Sorted.{IsStrictlySortedBy}
use Rattle.std.specs.Str.{is_utf8}
use Rattle.definitions.specs.Values.{Text, Value, nesting, elements_nesting, members_nesting, is_well_formed, are_well_formed, are_well_formed_members, is_before, to_elements, to_members}
use Rattle.json_doc.specs.Docs.{value}
use Rattle.json_doc.specs.Members.{AreAbove, HasNamesInOrder}
use Rattle.json_doc.specs.declared.doc.Doc.{Doc}

-- ---- elements
pub element_nesting : (xs : List Doc) (i : ℕ) (d : Doc) → i < length xs → nesting (value (get_or xs i d)) ≤ elements_nesting (to_elements (map value xs))
element_nesting [] i d h = absurd (omega arith)
element_nesting (x ∷ xs) zero d h = omega arith
element_nesting (x ∷ xs) (suc i) d h = omega (arith, element_nesting xs i d (omega arith))

pub elements_nesting-snoc : (xs : List Doc) (d : Doc) → elements_nesting (to_elements (map value (xs ++ d ∷ []))) ≡ max (elements_nesting (to_elements (map value xs))) (nesting (value d))
elements_nesting-snoc [] d = omega arith
elements_nesting-snoc (x ∷ xs) d = rw (elements_nesting-snoc xs d) (omega arith)

pub are_well_formed-snoc : (xs : List Doc) (d : Doc) → are_well_formed (to_elements (map value xs)) ≡ true → is_well_formed (value d) ≡ true → are_well_formed (to_elements (map value (xs ++ d ∷ []))) ≡ true
are_well_formed-snoc [] d h k = rw k refl
are_well_formed-snoc (x ∷ xs) d h k = both (is_well_formed (value x)) h (λ r. are_well_formed-snoc xs d r k)
  where
    both : (b : Bool) {c e : Bool} → (b && c) ≡ true → (c ≡ true → e ≡ true) → (b && e) ≡ true
    both true h f = f h
    both false h f = cc

-- ---- members
pub member_nesting : (done : List (Text × Value)) (m : Text × Value) (rest : List (Text × Value)) → nesting m.1 ≤ members_nesting (to_members (done ++ m ∷ rest))
member_nesting [] m rest = omega arith
member_nesting (d ∷ done) m rest = omega (arith, member_nesting done m rest)

before_rest : (n : Text) (ms : List (Text × Value)) → AreAbove n ms → is_before n (to_members ms) ≡ true
before_rest n [] h = refl
before_rest n (m ∷ ms) h = rw h.0 refl

pub in_order_first : (m : Text × Value) (ms : List (Text × Value)) → HasNamesInOrder (m ∷ ms) → is_before m.0 (to_members ms) ≡ true
unfolding IsStrictlySortedBy
in_order_first m ms h = before_rest m.0 ms h.0

pub in_order_rest : (m : Text × Value) (ms : List (Text × Value)) → HasNamesInOrder (m ∷ ms) → HasNamesInOrder ms
unfolding IsStrictlySortedBy
in_order_rest m ms h = h.1

-- a member in order whose value is well formed leaves the others to decide
pub members_form : (m : Text × Value) (ms : List (Text × Value)) → HasNamesInOrder (m ∷ ms) → is_utf8 m.0 ≡ true → is_well_formed m.1 ≡ true
    → are_well_formed_members (to_members (m ∷ ms)) ≡ are_well_formed_members (to_members ms)
members_form m ms order text form = rw (text, in_order_first m ms order, form) refl

-- what one step does to the largest nesting so far
pub larger_element : (most n e v m : ℕ) → most ≡ min e m → n ≡ min v m → max most n ≡ min (max e v) m
larger_element most n e v m h k = omega arith

pub larger_member : (total most n v rest m : ℕ) → total ≡ max most (min (max v rest) m) → n ≡ min v m → total ≡ max (max most n) (min rest m)
larger_member total most n v rest m h k = omega arith

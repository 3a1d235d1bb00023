-- The order of values is total, and its equality is theirs.
use Rattle.std.proofs.Common.{◌≡◌, ℕ, ◌<◌, ℤ, ◌<ℤ◌, pos, List, [], ◌∷◌, Bool, true, false, Ordering, Less, Equal, Greater, is_eq, refl, sym, ap, ap₂, ◌∙◌, arith}
use Rattle.std.proofs.lemmas.Int.{ints}
use Rattle.std.proofs.lemmas.Cmp.{int_cmp_total, lists_total, ranked}
use Rattle.std.proofs.lemmas.Map.Text.{is_eq-slice_cmp}
use Rattle.std.specs.Cmp.{IsTotalOrder, both_tied, int_cmp_is}
use Rattle.std.specs.Cmp.Lexicographic.{slice_cmp}
use Rattle.std.specs.Ordering.{MatchOrdering, bool_cmp, int_cmp, nat_cmp, ordering_then, ordering_reverse}
use Rattle.definitions.specs.Values as json
use Rattle.definitions.specs.Values.{Text, Value, null, boolean, integer, string, array, object, Elements, no_elements, element, no_members, member, same, same_boolean, same_text, same_elements, same_members}
use Rattle.value_order.specs.Orders.{compared, compared_elements, compared_members}

-- ---- equality
tied_booleans : (b c : Bool) → same_boolean b c ≡ is_eq (bool_cmp b c)
tied_booleans true true = refl
tied_booleans true false = refl
tied_booleans false true = refl
tied_booleans false false = refl

tied_texts : (s t : Text) → same_text s t ≡ is_eq (slice_cmp nat_cmp s t)
tied_texts s t = sym (is_eq-slice_cmp s t)

mutual
  pub tied : (v w : Value) → same v w ≡ is_eq (compared v w)
  tied null null = refl
  tied null (boolean c) = refl
  tied null (integer z) = refl
  tied null (string t) = refl
  tied null (array vs) = refl
  tied null (object ms) = refl
  tied (boolean b) null = refl
  tied (boolean b) (boolean c) = tied_booleans b c
  tied (boolean b) (integer z) = refl
  tied (boolean b) (string t) = refl
  tied (boolean b) (array vs) = refl
  tied (boolean b) (object ms) = refl
  tied (integer y) null = refl
  tied (integer y) (boolean c) = refl
  tied (integer y) (integer z) = refl
  tied (integer y) (string t) = refl
  tied (integer y) (array vs) = refl
  tied (integer y) (object ms) = refl
  tied (string s) null = refl
  tied (string s) (boolean c) = refl
  tied (string s) (integer z) = refl
  tied (string s) (string t) = tied_texts s t
  tied (string s) (array vs) = refl
  tied (string s) (object ms) = refl
  tied (array us) null = refl
  tied (array us) (boolean c) = refl
  tied (array us) (integer z) = refl
  tied (array us) (string t) = refl
  tied (array us) (array vs) = tied_elements us vs
  tied (array us) (object ms) = refl
  tied (object ls) null = refl
  tied (object ls) (boolean c) = refl
  tied (object ls) (integer z) = refl
  tied (object ls) (string t) = refl
  tied (object ls) (array vs) = refl
  tied (object ls) (object ms) = tied_members ls ms

  tied_elements : (us vs : Elements) → same_elements us vs ≡ is_eq (compared_elements us vs)
  tied_elements no_elements no_elements = refl
  tied_elements no_elements (element v vs) = refl
  tied_elements (element u us) no_elements = refl
  tied_elements (element u us) (element v vs) = both_tied _ _ _ _ (tied u v) (tied_elements us vs)

  tied_members : (ls ms : json.Members) → same_members ls ms ≡ is_eq (compared_members ls ms)
  tied_members no_members no_members = refl
  tied_members no_members (member m v ms) = refl
  tied_members (member l u ls) no_members = refl
  tied_members (member l u ls) (member m v ms) =
      both_tied _ _ _ _ (tied_texts l m) (both_tied _ _ _ _ (tied u v) (tied_members ls ms))

-- ---- a value as a row of numbers, which stands before others: rows are in the values' order
abbrev text_row : Text → List ℤ → List ℤ
text_row [] more = pos 0 ∷ more
text_row (b ∷ bs) more = pos 1 ∷ pos b ∷ text_row bs more

abbrev of_boolean : Bool → ℤ
of_boolean false = pos 0
of_boolean true = pos 1

abbrev mutual
  row : Value → List ℤ → List ℤ
  row null more = pos 0 ∷ more
  row (boolean b) more = pos 1 ∷ of_boolean b ∷ more
  row (integer z) more = pos 2 ∷ z ∷ more
  row (string s) more = pos 3 ∷ text_row s more
  row (array vs) more = pos 4 ∷ elements_row vs more
  row (object ms) more = pos 5 ∷ members_row ms more

  elements_row : Elements → List ℤ → List ℤ
  elements_row no_elements more = pos 0 ∷ more
  elements_row (element v vs) more = pos 1 ∷ row v (elements_row vs more)

  members_row : json.Members → List ℤ → List ℤ
  members_row no_members more = pos 0 ∷ more
  members_row (member n v ms) more = pos 1 ∷ text_row n (row v (members_row ms more))

abbrev rows : List ℤ → List ℤ → Ordering
rows = slice_cmp int_cmp

then_assoc : (a b c : Ordering) → ordering_then a (ordering_then b c) ≡ ordering_then (ordering_then a b) c
then_assoc Less b c = refl
then_assoc Equal b c = refl
then_assoc Greater b c = refl

then_equal : (a : Ordering) → ordering_then a Equal ≡ a
then_equal Less = refl
then_equal Equal = refl
then_equal Greater = refl

booleans_in_rows : (b c : Bool) (xs ys : List ℤ) → rows (of_boolean b ∷ xs) (of_boolean c ∷ ys) ≡ ordering_then (bool_cmp b c) (rows xs ys)
booleans_in_rows true true xs ys = refl
booleans_in_rows true false xs ys = refl
booleans_in_rows false true xs ys = refl
booleans_in_rows false false xs ys = refl

naturals_in_rows : (m n : ℕ) → int_cmp (pos m) (pos n) ≡ nat_cmp m n
naturals_in_rows m n = sym (int_cmp_is (pos m) (pos n) (nat_cmp m n) (go (nat_cmp m n) (ranked m n (nat_cmp m n) refl)))
  where
    go : (o : Ordering) → MatchOrdering o (m < n) (m ≡ n) (n < m) → MatchOrdering o (pos m <ℤ pos n) (pos m ≡ pos n) (pos n <ℤ pos m)
    go Less h = omega (arith, ints)
    go Equal h = ap pos h
    go Greater h = omega (arith, ints)

texts_in_rows : (s t : Text) (xs ys : List ℤ) → rows (text_row s xs) (text_row t ys) ≡ ordering_then (slice_cmp nat_cmp s t) (rows xs ys)
texts_in_rows [] [] xs ys = refl
texts_in_rows [] (c ∷ cs) xs ys = refl
texts_in_rows (b ∷ bs) [] xs ys = refl
texts_in_rows (b ∷ bs) (c ∷ cs) xs ys =
    ap₂ ordering_then (naturals_in_rows b c) (texts_in_rows bs cs xs ys) ∙ then_assoc (nat_cmp b c) (slice_cmp nat_cmp bs cs) (rows xs ys)

mutual
  in_rows : (v w : Value) (xs ys : List ℤ) → rows (row v xs) (row w ys) ≡ ordering_then (compared v w) (rows xs ys)
  in_rows null null xs ys = refl
  in_rows null (boolean c) xs ys = refl
  in_rows null (integer z) xs ys = refl
  in_rows null (string t) xs ys = refl
  in_rows null (array vs) xs ys = refl
  in_rows null (object ms) xs ys = refl
  in_rows (boolean b) null xs ys = refl
  in_rows (boolean b) (boolean c) xs ys = booleans_in_rows b c xs ys
  in_rows (boolean b) (integer z) xs ys = refl
  in_rows (boolean b) (string t) xs ys = refl
  in_rows (boolean b) (array vs) xs ys = refl
  in_rows (boolean b) (object ms) xs ys = refl
  in_rows (integer y) null xs ys = refl
  in_rows (integer y) (boolean c) xs ys = refl
  in_rows (integer y) (integer z) xs ys = refl
  in_rows (integer y) (string t) xs ys = refl
  in_rows (integer y) (array vs) xs ys = refl
  in_rows (integer y) (object ms) xs ys = refl
  in_rows (string s) null xs ys = refl
  in_rows (string s) (boolean c) xs ys = refl
  in_rows (string s) (integer z) xs ys = refl
  in_rows (string s) (string t) xs ys = texts_in_rows s t xs ys
  in_rows (string s) (array vs) xs ys = refl
  in_rows (string s) (object ms) xs ys = refl
  in_rows (array us) null xs ys = refl
  in_rows (array us) (boolean c) xs ys = refl
  in_rows (array us) (integer z) xs ys = refl
  in_rows (array us) (string t) xs ys = refl
  in_rows (array us) (array vs) xs ys = elements_in_rows us vs xs ys
  in_rows (array us) (object ms) xs ys = refl
  in_rows (object ls) null xs ys = refl
  in_rows (object ls) (boolean c) xs ys = refl
  in_rows (object ls) (integer z) xs ys = refl
  in_rows (object ls) (string t) xs ys = refl
  in_rows (object ls) (array vs) xs ys = refl
  in_rows (object ls) (object ms) xs ys = members_in_rows ls ms xs ys

  elements_in_rows : (us vs : Elements) (xs ys : List ℤ)
      → rows (elements_row us xs) (elements_row vs ys) ≡ ordering_then (compared_elements us vs) (rows xs ys)
  elements_in_rows no_elements no_elements xs ys = refl
  elements_in_rows no_elements (element v vs) xs ys = refl
  elements_in_rows (element u us) no_elements xs ys = refl
  elements_in_rows (element u us) (element v vs) xs ys =
      in_rows u v (elements_row us xs) (elements_row vs ys)
      ∙ ap (ordering_then (compared u v)) (elements_in_rows us vs xs ys)
      ∙ then_assoc (compared u v) (compared_elements us vs) (rows xs ys)

  members_in_rows : (ls ms : json.Members) (xs ys : List ℤ)
      → rows (members_row ls xs) (members_row ms ys) ≡ ordering_then (compared_members ls ms) (rows xs ys)
  members_in_rows no_members no_members xs ys = refl
  members_in_rows no_members (member m v ms) xs ys = refl
  members_in_rows (member l u ls) no_members xs ys = refl
  members_in_rows (member l u ls) (member m v ms) xs ys =
      texts_in_rows l m (row u (members_row ls xs)) (row v (members_row ms ys))
      ∙ ap (ordering_then (slice_cmp nat_cmp l m))
      (in_rows u v (members_row ls xs) (members_row ms ys)
      ∙ ap (ordering_then (compared u v)) (members_in_rows ls ms xs ys)
      ∙ then_assoc (compared u v) (compared_members ls ms) (rows xs ys))
      ∙ then_assoc (slice_cmp nat_cmp l m) (ordering_then (compared u v) (compared_members ls ms)) (rows xs ys)

-- ---- the order is that of whole rows
as_rows : (v w : Value) → rows (row v []) (row w []) ≡ compared v w
as_rows v w = in_rows v w [] [] ∙ then_equal (compared v w)

rows_total : IsTotalOrder rows
rows_total = lists_total int_cmp_total

pub compared_total : IsTotalOrder compared
compared_total = record {
  antisymm = λ v w. sym (as_rows v w) ∙ rows_total.antisymm (row v []) (row w []) ∙ ap ordering_reverse (as_rows w v);
  trans = λ u v w h k. sym (as_rows u w) ∙ rows_total.trans (row u []) (row v []) (row w []) (as_rows u v ∙ h) (as_rows v w ∙ k);
  congr = λ u v w h. sym (as_rows u w) ∙ rows_total.congr (row u []) (row v []) (row w []) (as_rows u v ∙ h) ∙ as_rows v w;
}

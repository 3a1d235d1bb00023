-- A value is read back from the tokens of its text, where it is well formed and nests no deeper than a reader follows.
use Rattle.std.proofs.Common.{◌≡◌, ◌≤◌, ◌^◌, suc, max, ℤ, pos, negsuc, List, [], true, Option, Some, option_map, option_and_then, Less, Greater, nat_cmp, refl, sym, ap, ap₂, ◌∙◌, arith, append-nil}
use Rattle.std.proofs.lemmas.Bool.{and_parts, ltb-true}
use Rattle.std.proofs.lemmas.Cmp.{nat_list_cmp_total}
use Rattle.std.specs.Cmp.Lexicographic.{slice_cmp}
use Rattle.std.specs.Ordering.{ordering_reverse}
use Rattle.json.specs.Json as json
use Rattle.json.specs.Lex.{tokens}
use Rattle.json.specs.Token.{Token}
use Rattle.json.specs.Tree as tree
use Rattle.json.proofs.Printed.Trees.{value-json_tokens}
use Rattle.serde_json.specs.Data as data_words
use Rattle.serde_json.specs.Find.{of_integer, as_integer}
use Rattle.serde_json.specs.Read.{read, number_of, of_json, of_items, of_members, max_depth}
use Rattle.serde_json.specs.Written.{number_text, outline, items_outline, members_outline}
use Rattle.serde_json.proofs.Numbers.{number_of-decimal, number_of-negative}
use Rattle.definitions.specs.Values.{Text, Value, null, boolean, integer, string, array, object, Elements, no_elements, element, Members, no_members, member, nesting, elements_nesting, members_nesting, fits_64_bits, is_before, is_well_formed, are_well_formed, are_well_formed_members}
use Rattle.definitions.specs.Texts.{data_of, items_of, json_members_of, value_of, elements_of, members_of}
use Rattle.lemmas.proofs.Orders.{is_less}
use Rattle.json_doc.specs.Tokens.{value_tokens}

-- ---- nesting
mutual
  depth_is : (v : Value) → tree.depth (outline (data_of v)) ≡ nesting v
  depth_is null = refl
  depth_is (boolean b) = refl
  depth_is (integer z) = refl
  depth_is (string s) = refl
  depth_is (array vs) = ap suc (elements_depth_is vs)
  depth_is (object ms) = ap suc (members_depth_is ms)

  elements_depth_is : (vs : Elements) → tree.items_depth (items_outline (items_of vs)) ≡ elements_nesting vs
  elements_depth_is no_elements = refl
  elements_depth_is (element v vs) = ap₂ max (depth_is v) (elements_depth_is vs)

  members_depth_is : (ms : Members) → tree.members_depth (members_outline (json_members_of ms)) ≡ members_nesting ms
  members_depth_is no_members = refl
  members_depth_is (member n v ms) = ap₂ max (depth_is v) (members_depth_is ms)

-- ---- the value of its own data
number_back : (z : ℤ) → as_integer (of_integer z) ≡ Some z
number_back (pos n) = refl
number_back (negsuc n) = refl

mutual
  pub value_back : (v : Value) → value_of (data_of v) ≡ Some v
  value_back null = refl
  value_back (boolean b) = refl
  value_back (integer z) = ap (option_map integer) (number_back z)
  value_back (string s) = refl
  value_back (array vs) = ap (option_map array) (elements_back vs)
  value_back (object ms) = ap (option_map object) (members_back ms)

  elements_back : (vs : Elements) → elements_of (items_of vs) ≡ Some vs
  elements_back no_elements = refl
  elements_back (element v vs) = rw (value_back v, elements_back vs) refl

  members_back : (ms : Members) → members_of (json_members_of ms) ≡ Some ms
  members_back no_members = refl
  members_back (member n v ms) = rw (value_back v, members_back ms) refl

-- ---- a number's text
number_read : (z : ℤ) → fits_64_bits z ≡ true → number_of (number_text (of_integer z)) ≡ Some (of_integer z)
number_read (pos n) fits = number_of-decimal n (ltb-true n (2 ^ 64) fits)
number_read (negsuc n) fits = number_of-negative n (ltb-true n (2 ^ 63) fits)

-- ---- members, put in one after the other
abbrev append : Members → Members → Members
append no_members ms = ms
append (member n v rest) ms = member n v (append rest ms)

append-assoc : (a b c : Members) → append (append a b) c ≡ append a (append b c)
append-assoc no_members b c = refl
append-assoc (member n v a) b c = ap (member n v) (append-assoc a b c)

-- each of these names comes before that one
abbrev Precede : Members → Text → Type 0
Precede no_members name = Unit {0}
Precede (member n v ms) name = (slice_cmp nat_cmp n name ≡ Less) × Precede ms name

-- ... before the first of those
abbrev PrecedeAll : Members → Members → Type 0
PrecedeAll done no_members = Unit {0}
PrecedeAll done (member n v ms) = Precede done n

precede-first : (ms : Members) → PrecedeAll no_members ms
precede-first no_members = tt
precede-first (member n v ms) = tt

precede-next : (done : Members) (n m : Text) (v : Value) → Precede done n → slice_cmp nat_cmp n m ≡ Less → Precede (append done (member n v no_members)) m
precede-next no_members n m v h less = (less, tt)
precede-next (member k w done) n m v h less = (nat_list_cmp_total.trans k n m h.0 less, precede-next done n m v h.1 less)

precede-rest : (done : Members) (n : Text) (v : Value) (ms : Members) → Precede done n → is_before n ms ≡ true → PrecedeAll (append done (member n v no_members)) ms
precede-rest done n v no_members h before = tt
precede-rest done n v (member m w ms) h before = precede-next done n m v h (is_less _ before)

put_last : (done : Members) (n : Text) (v : Value) → Precede done n → data_words.put n (data_of v) (json_members_of done) ≡ json_members_of (append done (member n v no_members))
put_last no_members n v h = refl
put_last (member k w done) n v h =
    let after : slice_cmp nat_cmp n k ≡ Greater = nat_list_cmp_total.antisymm n k ∙ ap ordering_reverse h.0 in
    rw after (ap (data_words.member k (data_of w)) (put_last done n v h.1))

append-nil_members : (ms : Members) → append ms no_members ≡ ms
append-nil_members no_members = refl
append-nil_members (member n v ms) = ap (member n v) (append-nil_members ms)

-- ---- the data that the outline of a well-formed value is read as
mutual
  data_read : (v : Value) → is_well_formed v ≡ true → of_json (outline (data_of v)) ≡ Some (data_of v)
  data_read null h = refl
  data_read (boolean b) h = refl
  data_read (integer z) h = ap (option_map data_words.number) (number_read z h)
  data_read (string s) h = refl
  data_read (array vs) h = ap (option_map data_words.array) (items_read vs h)
  data_read (object ms) h = ap (option_map data_words.object) (members_read no_members ms (precede-first ms) h)

  items_read : (vs : Elements) → are_well_formed vs ≡ true → of_items (items_outline (items_of vs)) ≡ Some (items_of vs)
  items_read no_elements h = refl
  items_read (element v vs) h =
      let p = and_parts (is_well_formed v) (are_well_formed vs) h in
      rw (data_read v p.0, items_read vs p.1) refl

  members_read : (done ms : Members) → PrecedeAll done ms → are_well_formed_members ms ≡ true
      → of_members (members_outline (json_members_of ms)) (json_members_of done) ≡ Some (json_members_of (append done ms))
  members_read done no_members follow h = ap (λ ms. Some (json_members_of ms)) (sym (append-nil_members done))
  members_read done (member n v ms) follow h =
      let p = and_parts _ _ h in
      let q = and_parts _ _ p.1 in
      let r = and_parts (is_well_formed v) (are_well_formed_members ms) q.1 in
      let more = members_read (append done (member n v no_members)) ms (precede-rest done n v ms follow q.0) r.1 in
      rw (data_read v r.0, put_last done n v follow) (more ∙ ap (λ all. Some (json_members_of all)) (append-assoc done (member n v no_members) ms))

-- ---- the whole text
pub read_back : (v : Value) (bytes : Text) → is_well_formed v ≡ true → nesting v ≤ 127 → tokens bytes ≡ value_tokens v → read bytes ≡ Some (data_of v)
read_back v bytes formed shallow same =
    let deep = depth_is v in
    ap (λ (o : Option (json.Json × List Token)). option_and_then of_json (option_and_then (λ p. json.if_last p.0 p.1) o)) (ap (json.value max_depth) (same ∙ sym (append-nil _)) ∙ value-json_tokens (outline (data_of v)) max_depth [] (omega (arith, deep))) ∙ data_read v formed

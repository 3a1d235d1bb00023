-- The grammar's loops over tokens, a turn at a time, under the conversion to values.
use Rattle.std.proofs.Common.{◌≡◌, ℕ, ℤ, ◌-◌, ◌<◌, ◌≤◌, List, [], ◌∷◌, ◌++◌, length, map, Option, Some, None, option_map, option_and_then, Ordering, Less, Equal, Greater, nat_cmp, refl, ap, subst, ◌∙◌}
use Rattle.std.specs.Cmp.Lexicographic.{slice_cmp}
use Rattle.std.specs.Ordering.{match_ordering}
use Rattle.json.specs.Token.{Token}
use Rattle.json.specs.Json as grammar
use Rattle.json.specs.Json.{Parse, parse_map, after_end_array, read_key, items, members}
use Rattle.json.specs.Lex.{tokens}
use Rattle.serde_json.specs.Data as json
use Rattle.serde_json.specs.Data.{Data}
use Rattle.serde_json.specs.Find.{as_integer}
use Rattle.serde_json.specs.Read.{of_json, of_items, of_members, converted, number_of}
use Rattle.json_doc.proofs.Grammar.{twice, converted_some, item_read, items_over, member_read, members_over, whole_read}
use Rattle.definitions.specs.Values.{Text, Value, Elements, integer, array, object, no_elements, element, member, to_elements, to_members}
use Rattle.definitions.specs.Texts.{value_of, elements_of, members_of}
use Rattle.json_doc.specs.Docs.{value}
use Rattle.json_doc.specs.Members.{members_with}
use Rattle.json_doc.specs.Reads.{IsTextOf, whole_at}
use Rattle.json_doc.specs.declared.doc.Doc.{Doc}

pub converted-List : (o : Option (json.Items × List Token)) → converted value_of (parse_map json.array o) ≡ parse_map array (converted elements_of o)
converted-List None = refl
converted-List (Some p) = twice array p.1 (elements_of p.0)

pub converted-Dict : (o : Option (json.Members × List Token)) → converted value_of (parse_map json.object o) ≡ parse_map object (converted members_of o)
converted-Dict None = refl
converted-Dict (Some p) = twice object p.1 (members_of p.0)

with_element : (d : Data) (v : Value) → value_of d ≡ Some v → (o : Option (json.Items × List Token)) → converted elements_of (parse_map (json.item d) o) ≡ parse_map (element v) (converted elements_of o)
with_element d v e None = refl
with_element d v e (Some p) = rw e (twice (element v) p.1 (elements_of p.0))

module _ (p : Parse grammar.Json) where
  pub element_read : (n : ℕ) (ts r : List Token) (v : Value) → 0 < n → after_end_array ts ≡ None → converted value_of (converted of_json (p ts)) ≡ Some (v, r)
      → converted elements_of (converted of_items (items p n ts)) ≡ parse_map (element v) (converted elements_of (converted of_items (items p (n - 1) r)))
  element_read n ts r v some going e =
      let d = converted_some value_of (converted of_json (p ts)) v r e in
      ap (converted elements_of) (item_read p n ts r d.0 some going d.1) ∙ with_element d.0 v d.2 _

  pub elements_over : (n : ℕ) (ts r : List Token) → length ts ≤ n → after_end_array ts ≡ Some r → converted elements_of (converted of_items (items p n ts)) ≡ Some (no_elements, r)
  elements_over n ts r enough e = ap (converted elements_of) (items_over p n ts r enough e)

-- ---- a list that grows at its end
abbrev pub elements_before : List Doc → Elements → Elements
elements_before [] rest = rest
elements_before (d ∷ ds) rest = element (value d) (elements_before ds rest)

pub elements_before-no_elements : (ds : List Doc) → elements_before ds no_elements ≡ to_elements (map value ds)
elements_before-no_elements [] = refl
elements_before-no_elements (d ∷ ds) = ap (element (value d)) (elements_before-no_elements ds)

elements_push : (ds : List Doc) (d : Doc) (rest : Elements) → elements_before ds (element (value d) rest) ≡ elements_before (ds ++ d ∷ []) rest
elements_push [] d rest = refl
elements_push (e ∷ ds) d rest = ap (element (value e)) (elements_push ds d rest)

pub one_more_element : (ds : List Doc) (d : Doc) (r : Option (Elements × List Token)) → parse_map (elements_before ds) (parse_map (element (value d)) r) ≡ parse_map (elements_before (ds ++ d ∷ [])) r
one_more_element ds d None = refl
one_more_element ds d (Some p) = ap (λ es. Some (es, p.1)) (elements_push ds d p.0)

pub none_before : (r : Option (Elements × List Token)) → r ≡ parse_map (λ a. a) r
none_before None = refl
none_before (Some p) = refl

-- ---- members that are put in one after another: each of the data beside the one that is held
abbrev pub AreRead : json.Members → List (Text × Value) → Type 0
AreRead json.no_members [] = Unit {0}
AreRead json.no_members (m ∷ ms) = ⊥
AreRead (json.member l e rest) [] = ⊥
AreRead (json.member l e rest) (m ∷ ms) = (l ≡ m.0) × (value_of e ≡ Some m.1) × AreRead rest ms

read_by_order : (o : Ordering) (a b c : json.Members) (as' bs cs : List (Text × Value)) → AreRead a as' → AreRead b bs → AreRead c cs → AreRead (match_ordering o a b c) (match_ordering o as' bs cs)
read_by_order Less a b c as' bs cs h i j = h
read_by_order Equal a b c as' bs cs h i j = i
read_by_order Greater a b c as' bs cs h i j = j

pub AreRead-put : (k : Text) (d : Data) (v : Value) (old : json.Members) (ms : List (Text × Value)) → AreRead old ms → value_of d ≡ Some v → AreRead (json.put k d old) (members_with k v ms)
AreRead-put k d v json.no_members [] h is = (refl, is, tt)
AreRead-put k d v json.no_members (m ∷ ms) h is = absurd h
AreRead-put k d v (json.member l e rest) [] h is = absurd h
AreRead-put k d v (json.member l e rest) (m ∷ ms) h is =
    subst (λ n. AreRead (json.put k d (json.member l e rest)) (match_ordering (slice_cmp nat_cmp k n) ((k, v) ∷ m ∷ ms) ((m.0, v) ∷ ms) (m ∷ members_with k v ms))) h.0
    (read_by_order (slice_cmp nat_cmp k l) _ _ _ _ _ _ (refl, is, (h.0, h.1, h.2)) (h.0, is, h.2) (h.0, h.1, AreRead-put k d v rest ms h.2 is))

pub AreRead-whole : (old : json.Members) (ms : List (Text × Value)) → AreRead old ms → members_of old ≡ Some (to_members ms)
AreRead-whole json.no_members [] h = refl
AreRead-whole json.no_members (m ∷ ms) h = absurd h
AreRead-whole (json.member l e rest) [] h = absurd h
AreRead-whole (json.member l e rest) (m ∷ ms) h = rw (h.1, AreRead-whole rest ms h.2) (ap (λ k. Some (member k m.1 (to_members ms))) h.0)

module _ (p : Parse grammar.Json) (old : json.Members) where
  pub member_put : (n : ℕ) (k : Text) (ts s r : List Token) (v : Value) → 0 < n → read_key ts ≡ Some (Some k, s) → converted value_of (converted of_json (p s)) ≡ Some (v, r)
      → (d : Data) × (value_of d ≡ Some v) × (converted (λ ms. of_members ms old) (members p n ts) ≡ converted (λ ms. of_members ms (json.put k d old)) (members p (n - 1) r))
  member_put n k ts s r v some key e =
      let d = converted_some value_of (converted of_json (p s)) v r e in
      (d.0, d.2, member_read p old n k ts s r d.0 some key d.1)

  pub members_read : (n : ℕ) (ts r : List Token) (held : List (Text × Value)) → length ts ≤ n → read_key ts ≡ Some (None, r) → AreRead old held
      → converted members_of (converted (λ ms. of_members ms old) (members p n ts)) ≡ Some (to_members held, r)
  members_read n ts r held enough e h = ap (converted members_of) (members_over p old n ts r enough e) ∙ ap (option_map (λ ms. (ms, r))) (AreRead-whole old held h)

-- ---- the whole text
pub text_of_tokens : (text : Text) (v : Value) → converted value_of (converted of_json (grammar.value 127 (tokens text))) ≡ Some (v, []) → IsTextOf text v
text_of_tokens text v e =
    let d = converted_some value_of (converted of_json (grammar.value 127 (tokens text))) v [] e in
    ap (option_and_then value_of) (whole_read (grammar.value 127 (tokens text)) d.0 d.1) ∙ d.2

-- ---- a number
number_or : (n : Option json.Num) (z : ℤ) (r : List Token) → option_and_then as_integer n ≡ Some z
    → converted value_of (option_map (λ d. (d, r)) (option_map json.number n)) ≡ Some (integer z, r)
number_or None z r e = absurd (none_is_some e)
  where
    none_is_some : {A : Type 0} {a : A} → None ≡ Some a → ⊥
    none_is_some e = cc
number_or (Some n) z r e = rw e refl

pub number_at : (text : Text) (z : ℤ) (r : List Token) → whole_at text ≡ Some z → converted value_of (converted of_json (Some (grammar.number text, r))) ≡ Some (integer z, r)
number_at text z r e = number_or (number_of text) z r e

-- No array that is read has more elements than the text has bytes.
use Rattle.std.proofs.Common.{◌≡◌, ℕ, suc, ◌≤◌, List, Bool, true, false, cond, Some, Ok, Err, option_map, option_and_then, length, nat_lt, nat_le, Ordering, Less, Equal, Greater, le-leb, le_trans, arith, refl, ap, ◌∙◌, subst}
use Rattle.std.proofs.lemmas.Bool.{and_from, and_parts, leb-true, ltb-false}
use Rattle.std.specs.Cmp.Lexicographic.{slice_cmp}
use Rattle.std.specs.Ordering.{nat_cmp, match_ordering}
use Rattle.std.specs.Str.{is_utf8}
use Rattle.json.specs.Token.{Token}
use Rattle.json.specs.Lex.{tokens}
use Rattle.json.specs.Json as json
use Rattle.json.specs.Json.{value, if_last}
use Rattle.serde_json.specs.Data as data_words
use Rattle.serde_json.specs.Data.{Data}
use Rattle.serde_json.specs.Find.{as_integer}
use Rattle.serde_json.specs.Read.{read, of_json, of_items, of_members, number_of, max_depth}
use Rattle.definitions.specs.Values.{Text, Value, Elements, Members, null, boolean, integer, string, array, object, no_elements, element, no_members, member, elements_list}
use Rattle.definitions.specs.Faults.{bad_json, too_large}
use Rattle.definitions.specs.Texts.{value_of, elements_of, members_of, value_or_bad_json, parsed_value}
use Rattle.definitions.specs.Registries.{body_value}
use Rattle.definitions.specs.Limits.{limits}
use Rattle.definition_laws.specs.Reading.{has_arrays_within, have_arrays_within, members_have_arrays_within}
use Rattle.definition_laws.proofs.TextGrammar.{chained}
use Rattle.definition_laws.proofs.ReadValues.{under, last_is, of_data}
use Rattle.definition_laws.proofs.ShortTokens.{tokens_short}
use Rattle.definition_laws.proofs.ShortParses.{count, IsShort, AreShortItems, AreShortMembers, value_taken}

-- ---- what was read
abbrev data_count : data_words.Items → ℕ
data_count data_words.no_items = 0
data_count (data_words.item d ds) = suc (data_count ds)

abbrev mutual
  IsShortData : ℕ → Data → Type 0
  IsShortData n data_words.null = Unit {0}
  IsShortData n (data_words.boolean b) = Unit {0}
  IsShortData n (data_words.number k) = Unit {0}
  IsShortData n (data_words.string s) = Unit {0}
  IsShortData n (data_words.array ds) = (data_count ds ≤ n) × AreShortDataItems n ds
  IsShortData n (data_words.object ms) = AreShortDataMembers n ms

  AreShortDataItems : ℕ → data_words.Items → Type 0
  AreShortDataItems n data_words.no_items = Unit {0}
  AreShortDataItems n (data_words.item d ds) = IsShortData n d × AreShortDataItems n ds

  AreShortDataMembers : ℕ → data_words.Members → Type 0
  AreShortDataMembers n data_words.no_members = Unit {0}
  AreShortDataMembers n (data_words.member k d ms) = IsShortData n d × AreShortDataMembers n ms

put_at : (n : ℕ) (k l : Text) (d e : Data) (ms : data_words.Members) (o : Ordering) → IsShortData n d → AreShortDataMembers n (data_words.member l e ms) → AreShortDataMembers n (data_words.put k d ms)
    → AreShortDataMembers n (match_ordering o (data_words.member k d (data_words.member l e ms)) (data_words.member l d ms) (data_words.member l e (data_words.put k d ms)))
put_at n k l d e ms Less short old more = (short, old)
put_at n k l d e ms Equal short old more = (short, old.1)
put_at n k l d e ms Greater short old more = (old.0, more)

put_short : (n : ℕ) (k : Text) (d : Data) (ms : data_words.Members) → IsShortData n d → AreShortDataMembers n ms → AreShortDataMembers n (data_words.put k d ms)
put_short n k d data_words.no_members short old = (short, tt)
put_short n k d (data_words.member l e ms) short old = put_at n k l d e ms (slice_cmp nat_cmp k l) short old (put_short n k d ms short old.1)

as_many : (js : json.Items) (ds : data_words.Items) → of_items js ≡ Some ds → count js ≡ data_count ds
as_many json.no_items ds e = let is : data_words.no_items ≡ ds = cc in ap data_count is
as_many (json.item j js) ds e =
    let first = chained (λ d. option_map (data_words.item d) (of_items js)) (of_json j) ds e in
    let later = under (data_words.item first.0) (of_items js) ds first.1.1 in
    ap suc (as_many js later.0 later.1.0) ∙ ap data_count later.1.1

mutual
  json_short : (n : ℕ) (j : json.Json) (d : Data) → IsShort n j → of_json j ≡ Some d → IsShortData n d
  json_short n json.null d h e = let is : data_words.null ≡ d = cc in subst (IsShortData n) is tt
  json_short n (json.boolean b) d h e = let is : data_words.boolean b ≡ d = cc in subst (IsShortData n) is tt
  json_short n (json.number s) d h e = let k = under data_words.number (number_of s) d e in subst (IsShortData n) k.1.1 tt
  json_short n (json.string s) d h e = let is : data_words.string s ≡ d = cc in subst (IsShortData n) is tt
  json_short n (json.array js) d h e =
      let ds = under data_words.array (of_items js) d e in
      let same = as_many js ds.0 ds.1.0 in
      subst (IsShortData n) ds.1.1 (omega (arith, same, h.0), items_short n js ds.0 h.1 ds.1.0)
  json_short n (json.object ms) d h e =
      let ds = under data_words.object (of_members ms data_words.no_members) d e in subst (IsShortData n) ds.1.1 (members_short n ms data_words.no_members ds.0 h tt ds.1.0)

  items_short : (n : ℕ) (js : json.Items) (ds : data_words.Items) → AreShortItems n js → of_items js ≡ Some ds → AreShortDataItems n ds
  items_short n json.no_items ds h e = let is : data_words.no_items ≡ ds = cc in subst (AreShortDataItems n) is tt
  items_short n (json.item j js) ds h e =
      let first = chained (λ d. option_map (data_words.item d) (of_items js)) (of_json j) ds e in
      let later = under (data_words.item first.0) (of_items js) ds first.1.1 in
      subst (AreShortDataItems n) later.1.1 (json_short n j first.0 h.0 first.1.0, items_short n js later.0 h.1 later.1.0)

  members_short : (n : ℕ) (ms : json.Members) (old ds : data_words.Members) → AreShortMembers n ms → AreShortDataMembers n old → of_members ms old ≡ Some ds → AreShortDataMembers n ds
  members_short n json.no_members old ds h short e = let is : old ≡ ds = cc in subst (AreShortDataMembers n) is short
  members_short n (json.member k j ms) old ds h short e =
      let first = chained (λ d. of_members ms (data_words.put k d old)) (of_json j) ds e in
      members_short n ms (data_words.put k first.0 old) ds h.1 (put_short n k first.0 old (json_short n j first.0 h.0 first.1.0) short) first.1.1

-- ---- the value
as_many_elements : (ds : data_words.Items) (vs : Elements) → elements_of ds ≡ Some vs → data_count ds ≡ length (elements_list vs)
as_many_elements data_words.no_items vs e = let is : no_elements ≡ vs = cc in ap (λ us. length (elements_list us)) is
as_many_elements (data_words.item d ds) vs e =
    let first = chained (λ v. option_map (element v) (elements_of ds)) (value_of d) vs e in
    let later = under (element first.0) (elements_of ds) vs first.1.1 in
    ap suc (as_many_elements ds later.0 later.1.0) ∙ ap (λ us. length (elements_list us)) later.1.1

mutual
  value_short : (n : ℕ) (d : Data) (v : Value) → IsShortData n d → value_of d ≡ Some v → has_arrays_within n v ≡ true
  value_short n data_words.null v h e = let is : null ≡ v = cc in subst (λ u. has_arrays_within n u ≡ true) is refl
  value_short n (data_words.boolean b) v h e = let is : boolean b ≡ v = cc in subst (λ u. has_arrays_within n u ≡ true) is refl
  value_short n (data_words.number k) v h e = let z = under integer (as_integer k) v e in subst (λ u. has_arrays_within n u ≡ true) z.1.1 refl
  value_short n (data_words.string s) v h e = let is : string s ≡ v = cc in subst (λ u. has_arrays_within n u ≡ true) is refl
  value_short n (data_words.array ds) v h e =
      let vs = under array (elements_of ds) v e in
      let same = as_many_elements ds vs.0 vs.1.0 in
      subst (λ u. has_arrays_within n u ≡ true) vs.1.1
      (and_from (nat_le (length (elements_list vs.0)) n) (have_arrays_within n vs.0) (le-leb (length (elements_list vs.0)) n (omega (arith, same, h.0)))
      (elements_short n ds vs.0 h.1 vs.1.0))
  value_short n (data_words.object ms) v h e = let us = under object (members_of ms) v e in subst (λ u. has_arrays_within n u ≡ true) us.1.1 (all_short n ms us.0 h us.1.0)

  elements_short : (n : ℕ) (ds : data_words.Items) (vs : Elements) → AreShortDataItems n ds → elements_of ds ≡ Some vs → have_arrays_within n vs ≡ true
  elements_short n data_words.no_items vs h e = let is : no_elements ≡ vs = cc in subst (λ us. have_arrays_within n us ≡ true) is refl
  elements_short n (data_words.item d ds) vs h e =
      let first = chained (λ v. option_map (element v) (elements_of ds)) (value_of d) vs e in
      let later = under (element first.0) (elements_of ds) vs first.1.1 in
      subst (λ us. have_arrays_within n us ≡ true) later.1.1
      (and_from (has_arrays_within n first.0) (have_arrays_within n later.0) (value_short n d first.0 h.0 first.1.0) (elements_short n ds later.0 h.1 later.1.0))

  all_short : (n : ℕ) (ds : data_words.Members) (ms : Members) → AreShortDataMembers n ds → members_of ds ≡ Some ms → members_have_arrays_within n ms ≡ true
  all_short n data_words.no_members ms h e = let is : no_members ≡ ms = cc in subst (λ us. members_have_arrays_within n us ≡ true) is refl
  all_short n (data_words.member k d ds) ms h e =
      let first = chained (λ v. option_map (member k v) (members_of ds)) (value_of d) ms e in
      let later = under (member k first.0) (members_of ds) ms first.1.1 in
      subst (λ us. members_have_arrays_within n us ≡ true) later.1.1
      (and_from (has_arrays_within n first.0) (members_have_arrays_within n later.0) (value_short n d first.0 h.0 first.1.0) (all_short n ds later.0 h.1 later.1.0))

-- ---- the whole text
read_short : (depth : ℕ) (bytes : Text) (d : Data)
    → option_and_then of_json (option_and_then (λ (p : json.Json × List Token). if_last p.0 p.1) (value depth (tokens bytes))) ≡ Some d → IsShortData (length bytes) d
read_short depth bytes d e =
    let whole = chained of_json (option_and_then (λ (p : json.Json × List Token). if_last p.0 p.1) (value depth (tokens bytes))) d e in
    let parsed = chained (λ (p : json.Json × List Token). if_last p.0 p.1) (value depth (tokens bytes)) whole.0 whole.1.0 in
    let taken = value_taken (length bytes) depth (tokens bytes) parsed.0.1 parsed.0.0 (tokens_short bytes) parsed.1.0 in
    json_short (length bytes) whole.0 d (subst (IsShort (length bytes)) (last_is parsed.0.0 whole.0 parsed.0.1 parsed.1.1) taken.0) whole.1.1

by_utf8 : (b : Bool) (bytes : Text) (v : Value) → cond b (value_or_bad_json (read bytes)) (Err bad_json) ≡ Ok v → has_arrays_within (length bytes) v ≡ true
by_utf8 true bytes v e = let d = of_data (read bytes) v e in value_short (length bytes) d.0 v (read_short max_depth bytes d.0 d.1.0) d.1.1
by_utf8 false bytes v e = cc

pub arrays_short : (bytes : Text) (v : Value) → parsed_value bytes ≡ Ok v → has_arrays_within (length bytes) v ≡ true
arrays_short bytes v e = by_utf8 (is_utf8 bytes) bytes v e

-- ---- the body of a request
mutual
  value_longer : (m n : ℕ) → m ≤ n → (v : Value) → has_arrays_within m v ≡ true → has_arrays_within n v ≡ true
  value_longer m n le null h = refl
  value_longer m n le (boolean b) h = refl
  value_longer m n le (integer z) h = refl
  value_longer m n le (string s) h = refl
  value_longer m n le (array vs) h =
      let parts = and_parts (nat_le (length (elements_list vs)) m) (have_arrays_within m vs) h in
      and_from (nat_le (length (elements_list vs)) n) (have_arrays_within n vs)
      (le-leb (length (elements_list vs)) n (le_trans (leb-true (length (elements_list vs)) m parts.0) le)) (elements_longer m n le vs parts.1)
  value_longer m n le (object ms) h = members_longer m n le ms h

  elements_longer : (m n : ℕ) → m ≤ n → (vs : Elements) → have_arrays_within m vs ≡ true → have_arrays_within n vs ≡ true
  elements_longer m n le no_elements h = refl
  elements_longer m n le (element v vs) h =
      let parts = and_parts (has_arrays_within m v) (have_arrays_within m vs) h in
      and_from (has_arrays_within n v) (have_arrays_within n vs) (value_longer m n le v parts.0) (elements_longer m n le vs parts.1)

  members_longer : (m n : ℕ) → m ≤ n → (ms : Members) → members_have_arrays_within m ms ≡ true → members_have_arrays_within n ms ≡ true
  members_longer m n le no_members h = refl
  members_longer m n le (member k v ms) h =
      let parts = and_parts (has_arrays_within m v) (members_have_arrays_within m ms) h in
      and_from (has_arrays_within n v) (members_have_arrays_within n ms) (value_longer m n le v parts.0) (members_longer m n le ms parts.1)

of_size : (n : ℕ) (large : Bool) (body : Text) (v : Value) → nat_lt n (length body) ≡ large → cond large (Err too_large) (parsed_value body) ≡ Ok v → has_arrays_within n v ≡ true
of_size n true body v size e = cc
of_size n false body v size e = value_longer (length body) n (ltb-false n (length body) size) v (arrays_short body v e)

pub body_short : (body : Text) (v : Value) → body_value body ≡ Ok v → has_arrays_within limits.body_bytes v ≡ true
body_short body v e = of_size limits.body_bytes (nat_lt limits.body_bytes (length body)) body v refl e

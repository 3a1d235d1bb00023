-- Every value that is read is well formed.
use Rattle.std.proofs.Common.{◌≡◌, ℕ, Bool, true, false, cond, ◌&&◌, List, [], ◌∷◌, length, nat_lt, Some, None, Ok, Err, Option, option_map, option_and_then, is_lt, Ordering, Less, Equal, Greater, refl, ap, ◌∙◌, subst}
use Rattle.std.proofs.lemmas.Bool.{and_from}
use Rattle.std.proofs.lemmas.Cmp.{nat_list_cmp_total}
use Rattle.std.proofs.lemmas.Str.{IsUtf8-from_is_utf8}
use Rattle.std.specs.Cmp.Lexicographic.{slice_cmp}
use Rattle.std.specs.Ordering.{nat_cmp, match_ordering, ordering_reverse}
use Rattle.std.specs.Str.{is_utf8}
use Rattle.json.specs.Token.{Token}
use Rattle.json.specs.Lex.{tokens}
use Rattle.json.specs.Json as json
use Rattle.json.specs.Json.{Parse, items, members, value, items_step, members_step, after_end_array, read_key, value_with, parse_map, if_last}
use Rattle.serde_json.specs.Data as data_words
use Rattle.serde_json.specs.Data.{Num, Data}
use Rattle.serde_json.specs.Find.{as_integer}
use Rattle.serde_json.specs.Read.{read, of_json, of_items, of_members, number_of, max_depth}
use Rattle.definitions.specs.Values.{Text, Value, Elements, Members, null, boolean, integer, string, array, object, no_elements, element, no_members, member, is_before, is_well_formed, are_well_formed, are_well_formed_members}
use Rattle.definitions.specs.Faults.{bad_json, too_large}
use Rattle.definitions.specs.Texts.{value_of, elements_of, members_of, value_or_bad_json, value_or_bad_number, parsed_value}
use Rattle.definitions.specs.Registries.{body_value}
use Rattle.definitions.specs.Limits.{limits}
use Rattle.definition_laws.proofs.TokenTexts.{tokens_text}
use Rattle.definition_laws.proofs.WholeNumbers.{IsFitting, number_fitting}
use Rattle.definition_laws.proofs.TextGrammar.{IsTextJson, AreTextItems, AreTextMembers, chained, value_text}

-- ---- what was read, with each name once and in byte order
abbrev IsBefore : Text → data_words.Members → Type 0
IsBefore k data_words.no_members = Unit {0}
IsBefore k (data_words.member l d ms) = slice_cmp nat_cmp k l ≡ Less

abbrev mutual
  IsFormed : Data → Type 0
  IsFormed data_words.null = Unit {0}
  IsFormed (data_words.boolean b) = Unit {0}
  IsFormed (data_words.number n) = IsFitting n
  IsFormed (data_words.string s) = is_utf8 s ≡ true
  IsFormed (data_words.array ds) = AreFormedItems ds
  IsFormed (data_words.object ms) = AreFormedMembers ms

  AreFormedItems : data_words.Items → Type 0
  AreFormedItems data_words.no_items = Unit {0}
  AreFormedItems (data_words.item d ds) = IsFormed d × AreFormedItems ds

  AreFormedMembers : data_words.Members → Type 0
  AreFormedMembers data_words.no_members = Unit {0}
  AreFormedMembers (data_words.member k d ms) = (is_utf8 k ≡ true) × (IsBefore k ms × (IsFormed d × AreFormedMembers ms))

before_put_at : (j k l : Text) (d e : Data) (ms : data_words.Members) (o : Ordering) → slice_cmp nat_cmp j k ≡ Less → slice_cmp nat_cmp j l ≡ Less
    → IsBefore j (match_ordering o (data_words.member k d (data_words.member l e ms)) (data_words.member l d ms) (data_words.member l e (data_words.put k d ms)))
before_put_at j k l d e ms Less below before = below
before_put_at j k l d e ms Equal below before = before
before_put_at j k l d e ms Greater below before = before

before_put : (j k : Text) (d : Data) (ms : data_words.Members) → slice_cmp nat_cmp j k ≡ Less → IsBefore j ms → IsBefore j (data_words.put k d ms)
before_put j k d data_words.no_members below before = below
before_put j k d (data_words.member l e ms) below before = before_put_at j k l d e ms (slice_cmp nat_cmp k l) below before

put_at : (k l : Text) (d e : Data) (ms : data_words.Members) (o : Ordering) → slice_cmp nat_cmp k l ≡ o → is_utf8 k ≡ true → IsFormed d → AreFormedMembers (data_words.member l e ms)
    → AreFormedMembers (data_words.put k d ms)
    → AreFormedMembers (match_ordering o (data_words.member k d (data_words.member l e ms)) (data_words.member l d ms) (data_words.member l e (data_words.put k d ms)))
put_at k l d e ms Less at text formed old more = (text, (at, (formed, old)))
put_at k l d e ms Equal at text formed old more = (old.0, (old.1.0, (formed, old.1.1.1)))
put_at k l d e ms Greater at text formed old more =
    (old.0, (before_put l k d ms (nat_list_cmp_total.antisymm l k ∙ ap ordering_reverse at) old.1.0, (old.1.1.0, more)))

put_formed : (k : Text) (d : Data) (ms : data_words.Members) → is_utf8 k ≡ true → IsFormed d → AreFormedMembers ms → AreFormedMembers (data_words.put k d ms)
put_formed k d data_words.no_members text formed old = (text, (tt, (formed, tt)))
put_formed k d (data_words.member l e ms) text formed old = put_at k l d e ms (slice_cmp nat_cmp k l) refl text formed old (put_formed k d ms text formed old.1.1.1)

pub under : {A B : Type 0} (f : A → B) (o : Option A) (b : B) → option_map f o ≡ Some b → (a : A) × ((o ≡ Some a) × (f a ≡ b))
under f None b e = cc
under f (Some a) b e = (a, (refl, cc))

mutual
  json_formed : (j : json.Json) (d : Data) → IsTextJson j → of_json j ≡ Some d → IsFormed d
  json_formed json.null d h e = let is : data_words.null ≡ d = cc in subst IsFormed is tt
  json_formed (json.boolean b) d h e = let is : data_words.boolean b ≡ d = cc in subst IsFormed is tt
  json_formed (json.number s) d h e = let n = under data_words.number (number_of s) d e in subst IsFormed n.1.1 (number_fitting s n.0 n.1.0)
  json_formed (json.string s) d h e = let is : data_words.string s ≡ d = cc in subst IsFormed is h
  json_formed (json.array js) d h e = let ds = under data_words.array (of_items js) d e in subst IsFormed ds.1.1 (items_formed js ds.0 h ds.1.0)
  json_formed (json.object ms) d h e =
      let ds = under data_words.object (of_members ms data_words.no_members) d e in subst IsFormed ds.1.1 (members_formed ms data_words.no_members ds.0 h tt ds.1.0)

  items_formed : (js : json.Items) (ds : data_words.Items) → AreTextItems js → of_items js ≡ Some ds → AreFormedItems ds
  items_formed json.no_items ds h e = let is : data_words.no_items ≡ ds = cc in subst AreFormedItems is tt
  items_formed (json.item j js) ds h e =
      let first = chained (λ d. option_map (data_words.item d) (of_items js)) (of_json j) ds e in
      let later = under (data_words.item first.0) (of_items js) ds first.1.1 in
      subst AreFormedItems later.1.1 (json_formed j first.0 h.0 first.1.0, items_formed js later.0 h.1 later.1.0)

  members_formed : (ms : json.Members) (old ds : data_words.Members) → AreTextMembers ms → AreFormedMembers old → of_members ms old ≡ Some ds → AreFormedMembers ds
  members_formed json.no_members old ds h formed e = let is : old ≡ ds = cc in subst AreFormedMembers is formed
  members_formed (json.member k j ms) old ds h formed e =
      let first = chained (λ d. of_members ms (data_words.put k d old)) (of_json j) ds e in
      members_formed ms (data_words.put k first.0 old) ds h.1.1 (put_formed k first.0 old h.0 (json_formed j first.0 h.1.0 first.1.0) formed) first.1.1

-- ---- the value
before_first : (k : Text) (ds : data_words.Members) (ms : Members) → IsBefore k ds → members_of ds ≡ Some ms → is_before k ms ≡ true
before_first k data_words.no_members ms before e = let is : no_members ≡ ms = cc in subst (λ us. is_before k us ≡ true) is refl
before_first k (data_words.member l d ds) ms before e =
    let first = chained (λ v. option_map (member l v) (members_of ds)) (value_of d) ms e in
    let later = under (member l first.0) (members_of ds) ms first.1.1 in
    subst (λ us. is_before k us ≡ true) later.1.1 (ap is_lt before)

mutual
  value_formed : (d : Data) (v : Value) → IsFormed d → value_of d ≡ Some v → is_well_formed v ≡ true
  value_formed data_words.null v h e = let is : null ≡ v = cc in subst (λ u. is_well_formed u ≡ true) is refl
  value_formed (data_words.boolean b) v h e = let is : boolean b ≡ v = cc in subst (λ u. is_well_formed u ≡ true) is refl
  value_formed (data_words.number n) v h e = let z = under integer (as_integer n) v e in subst (λ u. is_well_formed u ≡ true) z.1.1 (h z.0 z.1.0)
  value_formed (data_words.string s) v h e = let is : string s ≡ v = cc in subst (λ u. is_well_formed u ≡ true) is h
  value_formed (data_words.array ds) v h e = let vs = under array (elements_of ds) v e in subst (λ u. is_well_formed u ≡ true) vs.1.1 (elements_formed ds vs.0 h vs.1.0)
  value_formed (data_words.object ms) v h e = let us = under object (members_of ms) v e in subst (λ u. is_well_formed u ≡ true) us.1.1 (all_formed ms us.0 h us.1.0)

  elements_formed : (ds : data_words.Items) (vs : Elements) → AreFormedItems ds → elements_of ds ≡ Some vs → are_well_formed vs ≡ true
  elements_formed data_words.no_items vs h e = let is : no_elements ≡ vs = cc in subst (λ us. are_well_formed us ≡ true) is refl
  elements_formed (data_words.item d ds) vs h e =
      let first = chained (λ v. option_map (element v) (elements_of ds)) (value_of d) vs e in
      let later = under (element first.0) (elements_of ds) vs first.1.1 in
      subst (λ us. are_well_formed us ≡ true) later.1.1
      (and_from (is_well_formed first.0) (are_well_formed later.0) (value_formed d first.0 h.0 first.1.0) (elements_formed ds later.0 h.1 later.1.0))

  all_formed : (ds : data_words.Members) (ms : Members) → AreFormedMembers ds → members_of ds ≡ Some ms → are_well_formed_members ms ≡ true
  all_formed data_words.no_members ms h e = let is : no_members ≡ ms = cc in subst (λ us. are_well_formed_members us ≡ true) is refl
  all_formed (data_words.member k d ds) ms h e =
      let first = chained (λ v. option_map (member k v) (members_of ds)) (value_of d) ms e in
      let later = under (member k first.0) (members_of ds) ms first.1.1 in
      subst (λ us. are_well_formed_members us ≡ true) later.1.1
      (and_from (is_utf8 k) (is_before k later.0 && (is_well_formed first.0 && are_well_formed_members later.0)) h.0
      (and_from (is_before k later.0) (is_well_formed first.0 && are_well_formed_members later.0) (before_first k ds later.0 h.1.0 later.1.0)
      (and_from (is_well_formed first.0) (are_well_formed_members later.0) (value_formed d first.0 h.1.1.0 first.1.0) (all_formed ds later.0 h.1.1.1 later.1.0))))

-- ---- the whole text
pub last_is : (j k : json.Json) (ts : List Token) → if_last j ts ≡ Some k → j ≡ k
last_is j k [] e = cc
last_is j k (t ∷ ts) e = cc

read_formed : (n : ℕ) (bytes : Text) (d : Data) → is_utf8 bytes ≡ true
    → option_and_then of_json (option_and_then (λ (p : json.Json × List Token). if_last p.0 p.1) (value n (tokens bytes))) ≡ Some d → IsFormed d
read_formed n bytes d text e =
    let whole = chained of_json (option_and_then (λ (p : json.Json × List Token). if_last p.0 p.1) (value n (tokens bytes))) d e in
    let parsed = chained (λ (p : json.Json × List Token). if_last p.0 p.1) (value n (tokens bytes)) whole.0 whole.1.0 in
    let texts = value_text n (tokens bytes) parsed.0.1 parsed.0.0 (tokens_text bytes (IsUtf8-from_is_utf8 bytes text)) parsed.1.0 in
    json_formed whole.0 d (subst IsTextJson (last_is parsed.0.0 whole.0 parsed.0.1 parsed.1.1) texts.0) whole.1.1

of_value : (o : Option Value) (v : Value) → value_or_bad_number o ≡ Ok v → o ≡ Some v
of_value None v e = cc
of_value (Some u) v e = cc

pub of_data : (o : Option Data) (v : Value) → value_or_bad_json o ≡ Ok v → (d : Data) × ((o ≡ Some d) × (value_of d ≡ Some v))
of_data None v e = cc
of_data (Some d) v e = (d, (refl, of_value (value_of d) v e))

by_utf8 : (b : Bool) (bytes : Text) (v : Value) → is_utf8 bytes ≡ b → cond b (value_or_bad_json (read bytes)) (Err bad_json) ≡ Ok v → is_well_formed v ≡ true
by_utf8 true bytes v text e = let d = of_data (read bytes) v e in value_formed d.0 v (read_formed max_depth bytes d.0 text d.1.0) d.1.1
by_utf8 false bytes v text e = cc

pub well_formed : (bytes : Text) (v : Value) → parsed_value bytes ≡ Ok v → is_well_formed v ≡ true
well_formed bytes v e = by_utf8 (is_utf8 bytes) bytes v refl e

of_size : (large : Bool) (body : Text) (v : Value) → cond large (Err too_large) (parsed_value body) ≡ Ok v → is_well_formed v ≡ true
of_size true body v e = cc
of_size false body v e = well_formed body v e

pub body_well_formed : (body : Text) (v : Value) → body_value body ≡ Ok v → is_well_formed v ≡ true
body_well_formed body v e = of_size (nat_lt limits.body_bytes (length body)) body v e

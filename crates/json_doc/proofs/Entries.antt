-- The entries of a map beside the members that they stand for.
use Rattle.std.proofs.Common.{◌≡◌, ℕ, zero, suc, ◌<◌, get_or, arith, List, [], ◌∷◌, ◌++◌, map, length, Option, Some, None, option_map, Ordering, Less, Equal, Greater, nat_cmp, String, Global, string_bytes, is_eq, cond, Bool, true, false, refl, sym, ap, subst, ◌∙◌}
use Rattle.std.proofs.lemmas.Cmp.{nat_list_cmp_total}
use Rattle.std.proofs.lemmas.List.{map-append}
use Rattle.std.proofs.lemmas.Str.{is_utf8-from_IsUtf8, IsUtf8-string_bytes}
use Rattle.std.proofs.lemmas.Map.Text.{is_eq-slice_cmp}
use Rattle.std.specs.BTreeMap.{is_at, insert_entry}
use Rattle.std.specs.Cmp.Lexicographic.{slice_cmp}
use Rattle.std.specs.List.{AllByRecursion}
use Rattle.std.specs.List.Sorted.{IsStrictlySortedBy}
use Rattle.std.specs.Map.{keys_of, lookup}
use Rattle.std.specs.Ordering.{is_gt, is_lt, match_ordering, ordering_reverse}
use Rattle.std.specs.Str.{is_utf8}
use Rattle.definitions.specs.Values.{Text, Value, entry, same_text}
use Rattle.json_doc.specs.Docs.{value}
use Rattle.json_doc.specs.Members.{member_value, members_with, is_below, AreBelow, AreNotBelow, AreAbove, HasNamesInOrder, HasTextsAsNames}
use Rattle.json_doc.specs.SmallTexts.{text_view, text_cmp}
use Rattle.json_doc.specs.declared.small_text.SmallText.{SmallText}
use Rattle.json_doc.specs.declared.small_text.SmallText.TheVariants.{Short, Keyword, Long}
use Rattle.json_doc.specs.NameMaps.{entry_named, IsAbove, IsAboveNone, IsPut}
use Rattle.json_doc.specs.declared.doc.Doc.{Doc}
use Rattle.json_doc.proofs.NamesInOrder.{found_first, past_first}
use Rattle.json_doc.proofs.Views.{Entry}
use Rattle.keywords.proofs.Names.{name_is_utf8}
use Rattle.lemmas.proofs.Texts.{same_text_is}

-- ---- looking a name up
found_or : (b : Bool) (v : Doc) (rest : Option Doc) (d : Option Value) → option_map value rest ≡ d → option_map value (cond b (Some v) rest) ≡ cond b (Some (value v)) d
found_or true v rest d e = refl
found_or false v rest d e = e

pub value-lookup : (name : Text) (es : List Entry) → option_map value (lookup (is_at (λ k. slice_cmp nat_cmp name (text_view k))) es) ≡ entry name (map member_value es)
value-lookup name [] = refl
value-lookup name (e ∷ es) =
    found_or (is_eq (slice_cmp nat_cmp name (text_view e.0))) e.1 _ _ (value-lookup name es)
    ∙ ap (λ b. cond b (Some (value e.1)) (entry name (map member_value es))) (is_eq-slice_cmp name (text_view e.0))

-- the name and the value of an entry that was found
abbrev pub on_value : Text × Doc → Text × Value
on_value found = (found.0, value found.1)

named_value : (name : Text) (found : Option Doc) → option_map on_value (option_map {U = Text × Doc} (λ v. (name, v)) found) ≡ option_map {U = Text × Value} (λ v. (name, v)) (option_map value found)
named_value name None = refl
named_value name (Some d) = refl

pub entry_found : (name : Text) (es : List Entry) → option_map on_value (entry_named name es) ≡ option_map {U = Text × Value} (λ v. (name, v)) (entry name (map member_value es))
entry_found name es = named_value name (lookup (is_at (λ k. slice_cmp nat_cmp name (text_view k))) es) ∙ ap (option_map {U = Text × Value} (λ v. (name, v))) (value-lookup name es)

unnamed : (name : Text) (found : Option Doc) → option_map (λ (p : Text × Value). p.1) (option_map on_value (option_map {U = Text × Doc} (λ v. (name, v)) found)) ≡ option_map value found
unnamed name None = refl
unnamed name (Some d) = refl

pub value_found : (name : Text) (es : List Entry) → option_map (λ (p : Text × Value). p.1) (option_map on_value (entry_named name es)) ≡ entry name (map member_value es)
value_found name es = unnamed name (lookup (is_at (λ k. slice_cmp nat_cmp name (text_view k))) es) ∙ value-lookup name es

-- ---- putting an entry in
members-match_ordering : (o : Ordering) (a b c : List Entry) → map member_value (match_ordering o a b c) ≡ match_ordering o (map member_value a) (map member_value b) (map member_value c)
members-match_ordering Less a b c = refl
members-match_ordering Equal a b c = refl
members-match_ordering Greater a b c = refl

pub put-insert_entry : (es : List Entry) (k : SmallText) (d : Doc) → map member_value (insert_entry text_cmp es k d) ≡ members_with (text_view k) (value d) (map member_value es)
put-insert_entry [] k d = refl
put-insert_entry (e ∷ es) k d = members-match_ordering (text_cmp k e.0) _ _ _ ∙ rw (put-insert_entry es k d)

pub put_members : (name : Text) (d : Doc) (es fs : List Entry) → IsPut name d es fs → map member_value fs ≡ members_with name (value d) (map member_value es)
put_members name d es fs p = ap (map member_value) p.put ∙ put-insert_entry es p.key d ∙ ap (λ n. members_with n (value d) (map member_value es)) p.is

-- ---- the order of names
above : (name : SmallText) (es : List Entry) → AllByRecursion (λ k. text_cmp name k ≡ Less) (keys_of es) → AreAbove (text_view name) (map member_value es)
above name [] h = tt
above name (e ∷ es) h = (h.0, above name es h.1)

pub names_in_order : (es : List Entry) → IsStrictlySortedBy text_cmp (keys_of es) → HasNamesInOrder (map member_value es)
unfolding IsStrictlySortedBy
names_in_order [] h = tt
names_in_order (e ∷ es) h = (above e.0 es h.0, names_in_order es h.1)

-- ---- names below another
reversed : (o : Ordering) → is_lt (ordering_reverse o) ≡ is_gt o
reversed Less = refl
reversed Equal = refl
reversed Greater = refl

-- a name is below the other where the other is above it
below_is : (name other : Text) → is_below name other ≡ is_gt (slice_cmp nat_cmp other name)
below_is name other = ap is_lt (nat_list_cmp_total.antisymm name other) ∙ reversed (slice_cmp nat_cmp other name)

pub are_below : (name : Text) (es : List Entry) → IsAbove name es → AreBelow name (map member_value es)
are_below name [] h = tt
are_below name (e ∷ es) h = (below_is (text_view e.0) name ∙ ap is_gt h.0, are_below name es h.1)

pub are_not_below : (name : Text) (es : List Entry) → IsAboveNone name es → AreNotBelow name (map member_value es)
are_not_below name [] h = tt
are_not_below name (e ∷ es) h = (below_is (text_view e.0) name ∙ h.0, are_not_below name es h.1)

-- what is above no entry is above none of the first, nor of the others
pub above_none_parts : (name : Text) (es fs : List Entry) → IsAboveNone name (es ++ fs) → IsAboveNone name es × IsAboveNone name fs
above_none_parts name [] fs h = (tt, h)
above_none_parts name (e ∷ es) fs h = let parts = above_none_parts name es fs h.1 in ((h.0, parts.0), parts.1)

-- members cut twice
pub cut_twice : (bs rest cs ds es : List Entry) → bs ++ rest ≡ es → cs ++ ds ≡ rest
    → map member_value bs ++ (map member_value cs ++ map member_value ds) ≡ map member_value es
cut_twice bs rest cs ds es e f =
    ap (λ ms. map member_value bs ++ ms) (sym (map-append member_value cs ds)) ∙ sym (map-append member_value bs (cs ++ ds))
    ∙ ap (λ ns. map member_value (bs ++ ns)) f ∙ ap (map member_value) e

pub none_are_left : {A B : Type 0} (f : A → B) (xs : List A) → map f xs ≡ [] → length xs ≡ 0
none_are_left f [] e = refl
none_are_left f (x ∷ xs) e = cc

pub none_were_there : {A B : Type 0} (f : A → B) (xs : List A) → length xs ≡ 0 → map f xs ≡ []
none_were_there f [] e = refl
none_were_there f (x ∷ xs) e = cc

-- ---- names are in UTF-8
pub string_is_utf8 : (s : String Global) → is_utf8 (string_bytes s) ≡ true
string_is_utf8 s = is_utf8-from_IsUtf8 (string_bytes s) (IsUtf8-string_bytes s)

pub text_is_utf8 : (t : SmallText) → is_utf8 (text_view t) ≡ true
text_is_utf8 (Short s) = s.utf8
text_is_utf8 (Keyword k) = name_is_utf8 k
text_is_utf8 (Long s) = string_is_utf8 s

pub texts_as_names : (es : List Entry) → HasTextsAsNames (map member_value es)
texts_as_names [] = tt
texts_as_names (e ∷ es) = (text_is_utf8 e.0, texts_as_names es)

-- ---- an entry at a position
below_at : (name : SmallText) (es : List Entry) (i : ℕ) (d : Entry) → AllByRecursion (λ k. text_cmp name k ≡ Less) (keys_of es) → i < length es → text_cmp name (get_or es i d).0 ≡ Less
below_at name [] i d h within = absurd (omega arith)
below_at name (e ∷ es) zero d h within = h.0
below_at name (e ∷ es) (suc i) d h within = below_at name es i d h.1 (omega arith)

-- names are in order, so that what stands at a position is the only one of its name
found_within : (name : Text) (es : List Entry) (i : ℕ) (d : Entry) → IsStrictlySortedBy text_cmp (keys_of es) → i < length es → same_text name (text_view (get_or es i d).0) ≡ true
    → entry name (map member_value es) ≡ Some (value (get_or es i d).1)
unfolding IsStrictlySortedBy
found_within name [] i d h within same = absurd (omega arith)
found_within name (e ∷ es) zero d h within same = found_first name (member_value e) (map member_value es) (same_text_is name (text_view e.0) same)
found_within name (e ∷ es) (suc i) d h within same =
    let is : name ≡ text_view (get_or es i d).0 = same_text_is name (text_view (get_or es i d).0) same in
    let below : slice_cmp nat_cmp (text_view e.0) name ≡ Less = subst (λ t. slice_cmp nat_cmp (text_view e.0) t ≡ Less) (sym is) (below_at e.0 es i d h.0 (omega arith)) in
    sym (past_first (member_value e) (map member_value es) name below) ∙ found_within name es i d h.1 (omega arith) same

pub found_at : (name : Text) (es : List Entry) (i : ℕ) (e : Entry) → IsStrictlySortedBy text_cmp (keys_of es) → i < length es → e ≡ get_or es i e → same_text name (text_view e.0) ≡ true
    → entry name (map member_value es) ≡ Some (value e.1)
found_at name es i e h within at same =
    found_within name es i e h within (subst (λ (x : Entry). same_text name (text_view x.0) ≡ true) at same) ∙ ap (λ (x : Entry). Some (value x.1)) (sym at)

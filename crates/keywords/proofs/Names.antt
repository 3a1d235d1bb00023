-- What the definitions' table has under a name.
use Rattle.std.proofs.Common.{◌≡◌, ℕ, zero, suc, nat_lt, List, [], ◌∷◌, ◌∙◌, Bool, cond, None, Some, Option, option_map, unwrap_or, slice_index_or, true, false, refl, sym, ap, arith}
use Rattle.std.proofs.lemmas.Bool.{and_parts, ltb-true}
use Rattle.std.proofs.lemmas.Str.{IsUtf8-from_ascii, is_utf8-from_IsUtf8}
use Rattle.std.specs.List.{list_all}
use Rattle.std.specs.Str.{IsAscii, is_utf8}
use Rattle.definitions.specs.Values.{Text, same_text}
use Rattle.definitions.specs.Shapes.{any_value}
use Rattle.definitions.specs.Keywords as table
use Rattle.definitions.specs.Keywords.{keyword_named, keywords, shape_in}
use Rattle.lemmas.proofs.Texts.{same_text_differs, same_text_is}
use Rattle.keywords.specs.Rows.{row_named, row_of, shape_named}
use Rattle.keywords.specs.declared.keyword.Keyword.{Keyword}
use Rattle.keywords.specs.declared.keyword.Keyword.TheVariants.{Ref}
use Rattle.keywords.specs.declared.keyword.TheConstants.{LIKELY}
use Rattle.keywords.proofs.Likely.{place}

pub row_there : (k : Keyword) → Some (row_of k) ≡ row_named (row_of k).name
unfolding row_named
row_there Ref = refl
row_there _ = refl

-- each row is that of the keyword which its name may be
abbrev is_likely : table.Keyword → Bool
is_likely r = same_text r.name (row_of (slice_index_or LIKELY (place r.name) Ref)).name

all_likely : list_all is_likely keywords ≡ true
all_likely = refl

no_row : (name : Text) (rows : List table.Keyword) → list_all is_likely rows ≡ true → ((k : Keyword) → name ≡ (row_of k).name → ⊥) → keyword_named name rows ≡ None
no_row name [] all h = refl
no_row name (r ∷ rows) all h =
    let parts = and_parts (is_likely r) (list_all is_likely rows) all in
    let apart = same_text_differs name r.name (λ e. h _ (e ∙ same_text_is r.name _ parts.0)) in
    rw (apart, no_row name rows parts.1 h) refl

pub no_row_named : (name : Text) → ((k : Keyword) → name ≡ (row_of k).name → ⊥) → None ≡ row_named name
unfolding row_named
no_row_named name h = sym (no_row name keywords all_likely h)

pub shape_there : (name : Text) (k : Option table.Keyword) → k ≡ row_named name → unwrap_or (option_map (λ (r : table.Keyword). r.shape) k) any_value ≡ shape_named name
unfolding row_named shape_named
shape_there name k e = ap (λ o. unwrap_or (option_map (λ (r : table.Keyword). r.shape) o) any_value) e

pub shape_named-row : (name : Text) → shape_in keywords name ≡ shape_named name
unfolding shape_named
shape_named-row name = refl

-- ---- the row that is found under a name has that name
found_first : (name : Text) (b : Bool) (j k : table.Keyword) (later : Option table.Keyword) → same_text name j.name ≡ b
    → (later ≡ Some k → k.name ≡ name) → cond b (Some j) later ≡ Some k → k.name ≡ name
found_first name true j k later same rest found = let first : j ≡ k = cc in ap (λ (r : table.Keyword). r.name) (sym first) ∙ sym (same_text_is name j.name same)
found_first name false j k later same rest found = rest found

found_has : (name : Text) (ks : List table.Keyword) (k : table.Keyword) → keyword_named name ks ≡ Some k → k.name ≡ name
found_has name [] k found = absurd (cc)
found_has name (j ∷ ks) k found = found_first name (same_text name j.name) j k (keyword_named name ks) refl (found_has name ks k) found

pub named_has : (name : Text) (o : Option Keyword) (k : Keyword) → o ≡ Some k → option_map row_of o ≡ row_named name → (row_of k).name ≡ name
unfolding row_named
named_has name o k e named = found_has name keywords (row_of k) (sym named ∙ ap (option_map row_of) e)

-- ---- each name is in UTF-8
are_ascii : (bs : List ℕ) → list_all (λ b. nat_lt b 128) bs ≡ true → IsAscii bs
are_ascii [] h zero = omega arith
are_ascii [] h (suc i) = omega arith
are_ascii (b ∷ bs) h zero = ltb-true b 128 (and_parts (nat_lt b 128) (list_all (λ c. nat_lt c 128) bs) h).0
are_ascii (b ∷ bs) h (suc i) = are_ascii bs (and_parts (nat_lt b 128) (list_all (λ c. nat_lt c 128) bs) h).1 i

name_is_ascii : (k : Keyword) → list_all (λ b. nat_lt b 128) (row_of k).name ≡ true
name_is_ascii Ref = refl
name_is_ascii _ = refl

pub name_is_utf8 : (k : Keyword) → is_utf8 (row_of k).name ≡ true
name_is_utf8 k = is_utf8-from_IsUtf8 (row_of k).name (IsUtf8-from_ascii (row_of k).name (are_ascii (row_of k).name (name_is_ascii k)))

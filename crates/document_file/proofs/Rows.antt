-- Documents' rows in order are entries in order, and a change of the ones is a change of the others.
use Rattle.std.proofs.Common.{if◌then◌else◌, sym, ap, ap₂, cond, false, is_eq, map, not, refl, true, Bool, Equal, Greater, Less, List, Ordering, [], ◌∙◌, ◌∷◌, ◌≡◌, ◌&&◌}
use Rattle.std.specs.List.{AllByRecursion}
use Rattle.std.specs.List.Sorted.{IsStrictlySortedBy}
use Rattle.std.specs.Cmp.{tied_then}
use Rattle.std.specs.Cmp.Derive.{then_next}
use Rattle.std.specs.Cmp.Lexicographic.{slice_cmp}
use Rattle.std.specs.Ordering.{match_ordering, nat_cmp, ordering_reverse, ordering_then}
use Rattle.std.specs.Str.{bytes_eq}
use Rattle.std.proofs.lemmas.Bool.{and_parts}
use Rattle.std.proofs.lemmas.Cmp.{nat_list_cmp_total}
use Rattle.std.proofs.lemmas.Map.Text.{is_eq-slice_cmp}
use Rattle.definitions.specs.Values.{same_text, Text}
use Rattle.lemmas.proofs.Texts.{same_text_is}
use Rattle.stored_rows.proofs.RowOrder.{one_row, row_order, rows_tie}
use Rattle.stored_rows.specs.Rows.{is_row_at, row_cmp, with_row, without_row, Ascend, HasNoRow, Row}
use Rattle.sqlite_value.specs.declared.value.Value.{Value}
use Rattle.sqlite_value.specs.declared.value.Value.TheVariants as value
use Rattle.sqlite_value.specs.Order.{bytes, column, value_cmp, Row as Entry}
use Rattle.sqlite_value.specs.Keys.{entry_cmp, plain, prefix_cmp}
use Rattle.sqlite_value.proofs.KeyLemmas.{first_key-plain}
use Rattle.sqlite_value.proofs.OrderLemmas.{then-Equal, value_cmp-Text}
use Rattle.sqlite_trees.specs.Tree.{insert_entry}
use Rattle.document_file.specs.Entries.{base_value, entry_of, has_key, key_of, with_entry, without_key, HaveOneAt}
use Rattle.document_file.proofs.Members.{from_map}

abbrev key : Row → Entry
key r = key_of r.tenant r.uri

turned : (r s : Row) → row_cmp s r ≡ ordering_reverse (row_cmp r s)
turned r s = row_order.antisymm s r

key_is : (tenant uri : Text) (s : Row) → prefix_cmp plain (entry_of s) (key_of tenant uri) ≡ ordering_then (slice_cmp nat_cmp s.tenant tenant) (slice_cmp nat_cmp s.uri uri)
key_is tenant uri s = rw (first_key-plain, value_cmp-Text, value_cmp-Text, then-Equal) refl

entry_is : (r s : Row) → entry_cmp plain (entry_of s) (entry_of r)
    ≡ ordering_then (row_cmp s r) (ordering_then (value_cmp (base_value s.uri s.base) (base_value r.uri r.base)) (ordering_then (value_cmp (value.Text s.text) (value.Text r.text)) Equal))
entry_is r s = rw (first_key-plain, value_cmp-Text s.tenant r.tenant, value_cmp-Text s.uri r.uri) (then_next (slice_cmp nat_cmp s.tenant r.tenant) (slice_cmp nat_cmp s.uri r.uri) _ refl refl)

-- ---- a put
abbrev Above : Row → List Row → Type 0
Above r = AllByRecursion (λ s. row_cmp r s ≡ Less)

apart : (r s : Row) → row_cmp r s ≡ Less → has_key (key r) (entry_of s) ≡ false
apart r s h = ap is_eq (key_is r.tenant r.uri s ∙ turned r s ∙ ap ordering_reverse h)

none : (r : Row) (rs : List Row) → Above r rs → without_key (key r) (map entry_of rs) ≡ map entry_of rs
none r [] up = refl
none r (s ∷ ss) up = rw (apart r s up.0) (ap (λ l. entry_of s ∷ l) (none r ss up.1))

first : (r : Row) (rs : List Row) → Above r rs → insert_entry plain (entry_of r) (map entry_of rs) ≡ entry_of r ∷ map entry_of rs
first r [] up = refl
first r (s ∷ ss) up =
    let over : entry_cmp plain (entry_of s) (entry_of r) ≡ Greater = entry_is r s ∙ rw (turned r s, up.0) refl in
    rw over refl

farther : (r s : Row) (rs : List Row) → row_cmp r s ≡ Less → Above s rs → Above r rs
farther r s [] h up = tt
farther r s (t ∷ ts) h up = (row_order.trans r s t h up.0, farther r s ts h up.1)

no_nearer : (r s : Row) (rs : List Row) → row_cmp r s ≡ Equal → Above s rs → Above r rs
no_nearer r s [] h up = tt
no_nearer r s (t ∷ ts) h up = (row_order.congr r s t h ∙ up.0, no_nearer r s ts h up.1)

pub put_is_put : (r : Row) (rs : List Row) → Ascend rs → with_entry (key r) (entry_of r) (map entry_of rs) ≡ map entry_of (with_row r rs)
unfolding IsStrictlySortedBy
put_is_put r [] up = refl
put_is_put r (s ∷ ss) up = go (row_cmp r s) refl (put_is_put r ss up.1)
  where
    go : (o : Ordering) → row_cmp r s ≡ o → with_entry (key r) (entry_of r) (map entry_of ss) ≡ map entry_of (with_row r ss)
        → with_entry (key r) (entry_of r) (map entry_of (s ∷ ss)) ≡ map entry_of (match_ordering o (r ∷ s ∷ ss) (r ∷ ss) (s ∷ with_row r ss))
    go Less h more =
        let all : Above r (s ∷ ss) = (h, farther r s ss h up.0) in
        ap (insert_entry plain (entry_of r)) (none r (s ∷ ss) all) ∙ first r (s ∷ ss) all
    go Equal h more =
        let rest = no_nearer r s ss h up.0 in
        let has : has_key (key r) (entry_of s) ≡ true = ap is_eq (key_is r.tenant r.uri s ∙ turned r s ∙ ap ordering_reverse h) in
        rw has (ap (insert_entry plain (entry_of r)) (none r ss rest) ∙ first r ss rest)
    go Greater h more =
        let below : row_cmp s r ≡ Less = turned r s ∙ ap ordering_reverse h in
        let other : has_key (key r) (entry_of s) ≡ false = ap is_eq (key_is r.tenant r.uri s ∙ below) in
        let under : entry_cmp plain (entry_of s) (entry_of r) ≡ Less = entry_is r s ∙ rw below refl in
        rw (other, under) (ap (λ l. entry_of s ∷ l) more)

-- ---- a delete
same_backwards : (o : Ordering) → is_eq (ordering_reverse o) ≡ is_eq o
same_backwards Less = refl
same_backwards Equal = refl
same_backwards Greater = refl

same_either_way : (s t : Text) → is_eq (slice_cmp nat_cmp s t) ≡ bytes_eq t s
same_either_way s t = ap is_eq (nat_list_cmp_total.antisymm s t) ∙ same_backwards (slice_cmp nat_cmp t s) ∙ is_eq-slice_cmp t s

at_is : (tenant uri : Text) (s : Row) → has_key (key_of tenant uri) (entry_of s) ≡ is_row_at tenant uri s
at_is tenant uri s = ap is_eq (key_is tenant uri s) ∙ sym (tied_then (slice_cmp nat_cmp s.tenant tenant) (slice_cmp nat_cmp s.uri uri))
    ∙ ap₂ ◌&&◌ (same_either_way s.tenant tenant) (same_either_way s.uri uri)

pub delete_is_delete : (tenant uri : Text) (rs : List Row) → without_key (key_of tenant uri) (map entry_of rs) ≡ map entry_of (without_row tenant uri rs)
delete_is_delete tenant uri [] = refl
delete_is_delete tenant uri (s ∷ ss) = rw (at_is tenant uri s) (go (is_row_at tenant uri s) (delete_is_delete tenant uri ss))
  where
    go : (b : Bool) → without_key (key_of tenant uri) (map entry_of ss) ≡ map entry_of (without_row tenant uri ss)
        → cond (not b) (entry_of s ∷ without_key (key_of tenant uri) (map entry_of ss)) (without_key (key_of tenant uri) (map entry_of ss)) ≡ map entry_of (cond (not b) (s ∷ without_row tenant uri ss) (without_row tenant uri ss))
    go true more = more
    go false more = ap (λ l. entry_of s ∷ l) more

-- ---- one row at most has a tenant and a URI
own_parts : (tenant uri : Text) (s : Row) → has_key (key_of tenant uri) (entry_of s) ≡ true → (tenant ≡ s.tenant) × (uri ≡ s.uri)
own_parts tenant uri s h =
    let both = and_parts (same_text tenant s.tenant) (same_text uri s.uri) (sym (at_is tenant uri s) ∙ h) in
    (same_text_is tenant s.tenant both.0, same_text_is uri s.uri both.1)

pub one_entry : (tenant uri : Text) (rs : List Row) → Ascend rs → HaveOneAt (key_of tenant uri) (map entry_of rs)
one_entry tenant uri rs up a b c d h k =
    let r = from_map entry_of rs a c in
    let s = from_map entry_of rs b d in
    let p = own_parts tenant uri r.0 (ap (has_key (key_of tenant uri)) r.1.1 ∙ h) in
    let q = own_parts tenant uri s.0 (ap (has_key (key_of tenant uri)) s.1.1 ∙ k) in
    let same : r.0 ≡ s.0 = one_row rs r.0 s.0 up r.1.0 s.1.0 (rows_tie r.0 s.0 (sym p.0 ∙ q.0) (sym p.1 ∙ q.1)) in
    sym r.1.1 ∙ ap entry_of same ∙ s.1.1

-- ---- a row that is new
pub insert_is_put : (r : Row) (rs : List Row) → Ascend rs → HasNoRow r.tenant r.uri rs → insert_entry plain (entry_of r) (map entry_of rs) ≡ map entry_of (with_row r rs)
insert_is_put r rs up none =
    ap (insert_entry plain (entry_of r)) (sym (delete_is_delete r.tenant r.uri rs ∙ ap (map entry_of) none)) ∙ put_is_put r rs up

-- ---- the same entries are those of the same rows
abbrev base_in : Text → Value → Text
base_in uri value.Null = uri
base_in uri (value.Int n) = []
base_in uri (value.Real x) = []
base_in uri (value.Text t) = t
base_in uri (value.Blob b) = b

base_back : (uri base : Text) → base_in uri (base_value uri base) ≡ base
base_back uri base = go (bytes_eq base uri) refl
  where
    go : (t : Bool) → bytes_eq base uri ≡ t → base_in uri (if t then value.Null else value.Text base) ≡ base
    go true e = sym (same_text_is base uri e)
    go false e = refl

abbrev row_in : Entry → Row
row_in e = record { tenant = bytes (column e 0); uri = bytes (column e 1); base = base_in (bytes (column e 1)) (column e 2); text = bytes (column e 3) }

row_back : (r : Row) → row_in (entry_of r) ≡ r
row_back r = ap (λ (b : Text). record { tenant = r.tenant; uri = r.uri; base = b; text = r.text }) (base_back r.uri r.base)

same_row : (r s : Row) → entry_of r ≡ entry_of s → r ≡ s
same_row r s h = sym (row_back r) ∙ ap row_in h ∙ row_back s

pub same_rows : (rs ss : List Row) → map entry_of rs ≡ map entry_of ss → rs ≡ ss
same_rows [] [] h = refl
same_rows [] (s ∷ ss) h = absurd (cc)
same_rows (r ∷ rs) [] h = absurd (cc)
same_rows (r ∷ rs) (s ∷ ss) h = ap₂ ◌∷◌ (same_row r s cc) (same_rows rs ss cc)

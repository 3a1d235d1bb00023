-- A bundle's value is definite, as those of its documents are.
use Rattle.std.proofs.Common.{◌≡◌, ◌&&◌, List, [], ◌∷◌, true, Option, Some, None, Ordering, Less, Equal, Greater, nat_cmp, unwrap_or, codes, refl, sym, ap, subst, ◌∙◌, inl, inr}
use Rattle.std.proofs.lemmas.Bool.{and_parts}
use Rattle.std.proofs.lemmas.Cmp.{nat_list_cmp_total}
use Rattle.std.proofs.lemmas.Map.Lookups.{exact_bytes}
use Rattle.std.specs.Cmp.Lexicographic.{slice_cmp}
use Rattle.std.specs.Ordering.{match_ordering, is_lt, ordering_reverse}
use Rattle.std.specs.Str.{is_utf8, chars}
use lib.Utf8.{encode}
use Rattle.definitions.specs.Values.{Text, Value, null, boolean, integer, string, array, object, no_members, members, members_list, to_members, get, is_well_formed, are_well_formed_members, is_before}
use Rattle.definitions.specs.Schemas.{Document}
use Rattle.definitions.specs.Bundles.{put_member, with_member, under_its_uri, members_with_documents, defs_of, bundle_of}
use Rattle.lemmas.proofs.Members.{to_members-members_list}
use Rattle.definition_laws.specs.Identities.{has_short_arrays, members_have_short_arrays, IsDefinite}
use Rattle.definition_laws.proofs.Occurrences.{IsIn}
use Rattle.definition_laws.proofs.Places.{definite_members}
use Rattle.definition_laws.proofs.Applying.{get_in}

-- ---- members in order
abbrev IsOrdered : List (Text × Value) → Type 0
IsOrdered ms = are_well_formed_members (to_members ms) ≡ true

parts_of : (m : Text × Value) (ms : List (Text × Value)) → IsOrdered (m ∷ ms) → (is_utf8 m.0 ≡ true) × (is_before m.0 (to_members ms) ≡ true) × (is_well_formed m.1 ≡ true) × IsOrdered ms
parts_of m ms h =
    let p = and_parts (is_utf8 m.0) (is_before m.0 (to_members ms) && (is_well_formed m.1 && are_well_formed_members (to_members ms))) h in
    let q = and_parts (is_before m.0 (to_members ms)) (is_well_formed m.1 && are_well_formed_members (to_members ms)) p.1 in
    let r = and_parts (is_well_formed m.1) (are_well_formed_members (to_members ms)) q.1 in
    (p.0, q.0, r.0, r.1)

ordered_by : (m : Text × Value) (ms : List (Text × Value)) → is_utf8 m.0 ≡ true → is_before m.0 (to_members ms) ≡ true → is_well_formed m.1 ≡ true → IsOrdered ms → IsOrdered (m ∷ ms)
ordered_by m ms a b c d = rw (a, b, c) d

before_put : (k n : Text) (v : Value) (ms : List (Text × Value)) → is_before k (to_members ms) ≡ true → slice_cmp nat_cmp k n ≡ Less → is_before k (to_members (put_member n v ms)) ≡ true
before_put k n v [] h l = ap is_lt l
before_put k n v (m ∷ ms) h l = by (slice_cmp nat_cmp n m.0)
  where
    by : (o : Ordering) → is_before k (to_members (match_ordering o ((n, v) ∷ m ∷ ms) ((n, v) ∷ ms) (m ∷ put_member n v ms))) ≡ true
    by Less = ap is_lt l
    by Equal = ap is_lt l
    by Greater = h

put_ordered : (n : Text) (v : Value) (ms : List (Text × Value)) → is_utf8 n ≡ true → is_well_formed v ≡ true → IsOrdered ms → IsOrdered (put_member n v ms)
put_ordered n v [] a c h = ordered_by (n, v) [] a refl c refl
put_ordered n v (m ∷ ms) a c h = by (slice_cmp nat_cmp n m.0) refl (put_ordered n v ms a c (parts_of m ms h).3)
  where
    p : (is_utf8 m.0 ≡ true) × (is_before m.0 (to_members ms) ≡ true) × (is_well_formed m.1 ≡ true) × IsOrdered ms
    p = parts_of m ms h

    by : (o : Ordering) → slice_cmp nat_cmp n m.0 ≡ o → IsOrdered (put_member n v ms) → IsOrdered (match_ordering o ((n, v) ∷ m ∷ ms) ((n, v) ∷ ms) (m ∷ put_member n v ms))
    by Less e later = ordered_by (n, v) (m ∷ ms) a (ap is_lt e) c h
    by Equal e later = ordered_by (n, v) ms a (subst (λ k. is_before k (to_members ms) ≡ true) (sym (exact_bytes n m.0 e)) p.1) c p.3
    by Greater e later =
        let less : slice_cmp nat_cmp m.0 n ≡ Less = nat_list_cmp_total.antisymm m.0 n ∙ ap ordering_reverse e in
        ordered_by m (put_member n v ms) p.0 (before_put m.0 n v ms p.1 less) p.2 later

-- ---- short arrays
abbrev AreShort : List (Text × Value) → Type 0
AreShort ms = members_have_short_arrays (to_members ms) ≡ true

short_by : (m : Text × Value) (ms : List (Text × Value)) → has_short_arrays m.1 ≡ true → AreShort ms → AreShort (m ∷ ms)
short_by m ms a b = rw a b

put_short : (n : Text) (v : Value) (ms : List (Text × Value)) → has_short_arrays v ≡ true → AreShort ms → AreShort (put_member n v ms)
put_short n v [] a h = short_by (n, v) [] a refl
put_short n v (m ∷ ms) a h = by (slice_cmp nat_cmp n m.0) (put_short n v ms a p.1)
  where
    p : (has_short_arrays m.1 ≡ true) × AreShort ms
    p = and_parts (has_short_arrays m.1) (members_have_short_arrays (to_members ms)) h

    by : (o : Ordering) → AreShort (put_member n v ms) → AreShort (match_ordering o ((n, v) ∷ m ∷ ms) ((n, v) ∷ ms) (m ∷ put_member n v ms))
    by Less later = short_by (n, v) (m ∷ ms) a h
    by Equal later = short_by (n, v) ms a p.1
    by Greater later = short_by m (put_member n v ms) p.0 later

-- ---- definite values
abbrev of_list : List (Text × Value) → Value
of_list ms = object (to_members ms)

put_definite : (n : Text) (v : Value) (ms : List (Text × Value)) → is_utf8 n ≡ true → IsDefinite v → IsDefinite (of_list ms) → IsDefinite (of_list (put_member n v ms))
put_definite n v ms a d h = record { well_formed = put_ordered n v ms a d.well_formed h.well_formed; short_arrays = put_short n v ms d.short_arrays h.short_arrays }

listed_definite : (v : Value) → IsDefinite v → IsDefinite (of_list (members v))
listed_definite (object ms) d = subst (λ ns. IsDefinite (object ns)) (sym (to_members-members_list ms)) d
listed_definite _ d = record { well_formed = refl; short_arrays = refl }

definite-with : (n : Text) (v x : Value) → is_utf8 n ≡ true → IsDefinite v → IsDefinite x → IsDefinite (with_member n v x)
definite-with n v (object ms) a d h = put_definite n v (members_list ms) a d (listed_definite (object ms) h)
definite-with n v null a d h = h
definite-with n v (boolean b) a d h = h
definite-with n v (integer z) a d h = h
definite-with n v (string s) a d h = h
definite-with n v (array vs) a d h = h

id_text : is_utf8 (codes "$id") ≡ true
unfolding is_utf8 chars encode
id_text = refl

defs_text : is_utf8 (codes "$defs") ≡ true
unfolding is_utf8 chars encode
defs_text = refl

-- ---- the bundle
pub under_definite : (d : Document) → is_utf8 d.canonical ≡ true → IsDefinite d.value → IsDefinite (under_its_uri d)
under_definite d a h = definite-with (codes "$id") (string d.canonical) d.value id_text (record { well_formed = a; short_arrays = refl }) h

embedded_definite : (ds : List Document) (ms : List (Text × Value)) → ((d : Document) → IsIn d ds → is_utf8 d.canonical ≡ true) → ((d : Document) → IsIn d ds → IsDefinite d.value)
    → IsDefinite (of_list ms) → IsDefinite (of_list (members_with_documents ds ms))
embedded_definite [] ms a b h = h
embedded_definite (d ∷ ds) ms a b h =
    put_definite d.canonical (under_its_uri d) (members_with_documents ds ms) (a d (inl refl)) (under_definite d (a d (inl refl)) (b d (inl refl)))
    (embedded_definite ds ms (λ e i. a e (inr i)) (λ e i. b e (inr i)) h)

defs_definite : (v : Value) → IsDefinite v → IsDefinite (of_list (defs_of v))
defs_definite v d = by (get (codes "$defs") v) refl
  where
    by : (o : Option Value) → get (codes "$defs") v ≡ o → IsDefinite (of_list (members (unwrap_or o (object no_members))))
    by None e = record { well_formed = refl; short_arrays = refl }
    by (Some x) e = listed_definite x (definite_members v (codes "$defs") x d (get_in (codes "$defs") v x e))

pub bundle_definite : (root : Document) (others : List Document) → is_utf8 root.canonical ≡ true → IsDefinite root.value → ((d : Document) → IsIn d others → is_utf8 d.canonical ≡ true)
    → ((d : Document) → IsIn d others → IsDefinite d.value) → IsDefinite (bundle_of root others)
bundle_definite root [] a h b c = under_definite root a h
bundle_definite root (d ∷ ds) a h b c =
    definite-with (codes "$defs") (of_list (members_with_documents (d ∷ ds) (defs_of root.value))) (under_its_uri root) defs_text
    (embedded_definite (d ∷ ds) (defs_of root.value) b c (defs_definite root.value h)) (under_definite root a h)

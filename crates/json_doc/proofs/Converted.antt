-- What has been read of a list or an object, beside what it was read from.
use Rattle.std.proofs.Common.{◌≡◌, List, [], ◌∷◌, ◌++◌, map, String, Global, Some, None, Less, Greater, string_bytes, string_cmp, nat_cmp, refl, ap, ◌∙◌}
use Rattle.std.proofs.lemmas.Cmp.{nat_list_cmp_total}
use Rattle.std.specs.Cmp.Lexicographic.{slice_cmp}
use Rattle.std.specs.List.{AllByRecursion}
use Rattle.std.specs.List.Sorted.{IsStrictlySortedBy}
use Rattle.std.specs.Map.{keys_of}
use Rattle.std.specs.Ordering.{ordering_reverse}
use Rattle.serde_json.specs.View.{view, items_view, members_view}
use Rattle.serde_json.specs.declared.value.Value.{Value}
use Rattle.definitions.specs.Values as meaning
use Rattle.definitions.specs.Values.{Text, no_members, member, members_list, to_elements, to_members}
use Rattle.definitions.specs.Texts.{value_of, elements_of, members_of}
use Rattle.json_doc.specs.Docs.{value}
use Rattle.json_doc.specs.Members.{members_with}
use Rattle.json_doc.specs.declared.doc.Doc.{Doc}

-- ---- a list: each item beside the document that it was read as
abbrev pub AreItems : List Value → List Doc → Type 0
AreItems [] [] = Unit {0}
AreItems [] (d ∷ ds) = ⊥
AreItems (v ∷ vs) [] = ⊥
AreItems (v ∷ vs) (d ∷ ds) = (value_of (view v) ≡ Some (value d)) × AreItems vs ds

pub AreItems-snoc : (vs : List Value) (ds : List Doc) (v : Value) (d : Doc) → AreItems vs ds → value_of (view v) ≡ Some (value d) → AreItems (vs ++ v ∷ []) (ds ++ d ∷ [])
AreItems-snoc [] [] v d h e = (e, tt)
AreItems-snoc [] (b ∷ ds) v d h e = absurd h
AreItems-snoc (a ∷ vs) [] v d h e = absurd h
AreItems-snoc (a ∷ vs) (b ∷ ds) v d h e = (h.0, AreItems-snoc vs ds v d h.1 e)

pub AreItems-whole : (vs : List Value) (ds : List Doc) → AreItems vs ds → elements_of (items_view vs) ≡ Some (to_elements (map value ds))
AreItems-whole [] [] h = refl
AreItems-whole [] (d ∷ ds) h = absurd h
AreItems-whole (v ∷ vs) [] h = absurd h
AreItems-whole (v ∷ vs) (d ∷ ds) h = rw (h.0, AreItems-whole vs ds h.1) refl

pub AreItems-none : (vs : List Value) (ds : List Doc) (v : Value) (more : List Value) → AreItems vs ds → value_of (view v) ≡ None → elements_of (items_view (vs ++ v ∷ more)) ≡ None
AreItems-none [] ds v more h e = rw e refl
AreItems-none (a ∷ vs) [] v more h e = absurd h
AreItems-none (a ∷ vs) (b ∷ ds) v more h e = rw (h.0, AreItems-none vs ds v more h.1 e) refl

-- ---- an object: each member beside the one that it was read as
abbrev pub Entry : Type 0
Entry = String Global × Value

abbrev pub AreMembers : List Entry → List (Text × meaning.Value) → Type 0
AreMembers [] [] = Unit {0}
AreMembers [] (m ∷ ms) = ⊥
AreMembers (e ∷ es) [] = ⊥
AreMembers (e ∷ es) (m ∷ ms) = (string_bytes e.0 ≡ m.0) × (value_of (view e.1) ≡ Some m.1) × AreMembers es ms

pub AreMembers-snoc : (es : List Entry) (ms : List (Text × meaning.Value)) (e : Entry) (v : meaning.Value) → AreMembers es ms → value_of (view e.1) ≡ Some v
    → AreMembers (es ++ e ∷ []) (ms ++ (string_bytes e.0, v) ∷ [])
AreMembers-snoc [] [] e v h is = (refl, is, tt)
AreMembers-snoc [] (m ∷ ms) e v h is = absurd h
AreMembers-snoc (a ∷ es) [] e v h is = absurd h
AreMembers-snoc (a ∷ es) (m ∷ ms) e v h is = (h.0, h.1, AreMembers-snoc es ms e v h.2 is)

pub AreMembers-whole : (es : List Entry) (ms : List (Text × meaning.Value)) → AreMembers es ms → members_of (members_view es) ≡ Some (to_members ms)
AreMembers-whole [] [] h = refl
AreMembers-whole [] (m ∷ ms) h = absurd h
AreMembers-whole (e ∷ es) [] h = absurd h
AreMembers-whole (e ∷ es) (m ∷ ms) h = rw (h.1, AreMembers-whole es ms h.2) (ap (λ k. Some (member k m.1 (to_members ms))) h.0)

pub AreMembers-none : (es : List Entry) (ms : List (Text × meaning.Value)) (e : Entry) (more : List Entry) → AreMembers es ms → value_of (view e.1) ≡ None
    → members_of (members_view (es ++ e ∷ more)) ≡ None
AreMembers-none [] ms e more h is = rw is refl
AreMembers-none (a ∷ es) [] e more h is = absurd h
AreMembers-none (a ∷ es) (m ∷ ms) e more h is = rw (h.1, AreMembers-none es ms e more h.2 is) refl

below_middle : (first : Entry) (es : List Entry) (e : Entry) (more : List Entry) → AllByRecursion (λ y. string_cmp first.0 y ≡ Less) (keys_of (es ++ e ∷ more)) → string_cmp first.0 e.0 ≡ Less
below_middle first [] e more h = h.0
below_middle first (x ∷ es) e more h = below_middle first es e more h.1

-- the next name is above those before it, so its member goes last
pub next_is_last : (done : List Entry) (e : Entry) (more : List Entry) (ms : List (Text × meaning.Value)) (v : meaning.Value)
    → IsStrictlySortedBy string_cmp (keys_of (done ++ e ∷ more)) → AreMembers done ms → members_with (string_bytes e.0) v ms ≡ ms ++ (string_bytes e.0, v) ∷ []
unfolding IsStrictlySortedBy
next_is_last [] e more [] v sorted h = refl
next_is_last [] e more (m ∷ ms) v sorted h = absurd h
next_is_last (a ∷ done) e more [] v sorted h = absurd h
next_is_last (a ∷ done) e more (m ∷ ms) v sorted h =
    let above : slice_cmp nat_cmp (string_bytes e.0) m.0 ≡ Greater =
    rw (← h.0) (nat_list_cmp_total.antisymm (string_bytes e.0) (string_bytes a.0) ∙ ap ordering_reverse (below_middle a done e more sorted.0)) in
    rw above (ap (λ r. m ∷ r) (next_is_last done e more ms v sorted.1 h.2))

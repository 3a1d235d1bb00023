-- Members put in, and documents embedded among members.
use Rattle.std.proofs.Common.{◌≡◌, ◌<◌, ◌+◌, ◌++◌, ℕ, List, [], ◌∷◌, map, take, drop, get_or, length, Ordering, Less, Equal, Greater, nat_cmp, refl, sym, ap, ap₂, subst, ◌∙◌}
use Rattle.std.proofs.lemmas.List.{take-append-drop, take-map}
use Rattle.std.proofs.lemmas.Cmp.{nat_list_cmp_total}
use Rattle.std.proofs.lemmas.Map.Lookups.{exact_bytes}
use Rattle.std.specs.Cmp.Lexicographic.{slice_cmp}
use Rattle.std.specs.List.{AllByRecursion}
use Rattle.std.specs.List.Sorted.{IsStrictlySortedBy}
use Rattle.std.specs.Ordering.{match_ordering}
use Rattle.definitions.specs.Values.{Text, Value}
use Rattle.definitions.specs.Schemas.{Document}
use Rattle.definitions.specs.Documents.{Ascend, canonicals}
use Rattle.definitions.specs.Bundles.{put_member, under_its_uri, members_with_documents}
use Rattle.definition_laws.proofs.Placing.{inserted}
use Rattle.definition_laws.proofs.Replacing.{either_first}
use Rattle.lemmas.proofs.Lists.{map-take_more, drop_more-map}
use Rattle.json_doc.specs.Members.{members_with}
use Rattle.bundler.specs.Constituents.{constituent_view}
use Rattle.bundler.specs.declared.constituent.Constituent.{Constituent}

-- ---- one member
pub put_is : (n : Text) (v : Value) (ms : List (Text × Value)) → members_with n v ms ≡ put_member n v ms
put_is n v [] = refl
put_is n v (m ∷ ms) = by (slice_cmp nat_cmp n m.0) refl (put_is n v ms)
  where
    by : (o : Ordering) → slice_cmp nat_cmp n m.0 ≡ o → members_with n v ms ≡ put_member n v ms
        → match_ordering o ((n, v) ∷ m ∷ ms) ((m.0, v) ∷ ms) (m ∷ members_with n v ms) ≡ match_ordering o ((n, v) ∷ m ∷ ms) ((n, v) ∷ ms) (m ∷ put_member n v ms)
    by Less e rest = refl
    by Equal e rest = ap (λ (k : Text). (k, v) ∷ ms) (sym (exact_bytes n m.0 e))
    by Greater e rest = ap (λ ns. m ∷ ns) rest

-- ---- two members
abbrev name_of : Text × Value → Text
name_of m = m.0

as_inserted : (n : Text) (v : Value) (ms : List (Text × Value)) → inserted (slice_cmp nat_cmp) name_of (n, v) ms ≡ put_member n v ms
as_inserted n v [] = refl
as_inserted n v (m ∷ ms) = ap (λ ns. match_ordering (slice_cmp nat_cmp n m.0) ((n, v) ∷ m ∷ ms) ((n, v) ∷ ms) (m ∷ ns)) (as_inserted n v ms)

both : (a b : Text) (v w : Value) (ms : List (Text × Value)) → inserted (slice_cmp nat_cmp) name_of (a, v) (inserted (slice_cmp nat_cmp) name_of (b, w) ms) ≡ put_member a v (put_member b w ms)
both a b v w ms = ap (inserted (slice_cmp nat_cmp) name_of (a, v)) (as_inserted b w ms) ∙ as_inserted a v (put_member b w ms)

unlike : Less ≡ Equal → ⊥
unlike e = cc

-- in either order, where one name is before the other
put_either_first : (a b : Text) (v w : Value) (ms : List (Text × Value)) → slice_cmp nat_cmp a b ≡ Less → put_member a v (put_member b w ms) ≡ put_member b w (put_member a v ms)
put_either_first a b v w ms below =
    sym (both a b v w ms) ∙ either_first (slice_cmp nat_cmp) nat_list_cmp_total name_of (a, v) (b, w) ms (λ tie. unlike (sym below ∙ tie)) ∙ both b a w v ms

-- ---- documents
-- a name before all of these is before one in the middle
pub before_middle : (name : Text) (done : List Document) (d : Document) (rest : List Document)
    → AllByRecursion (λ n. slice_cmp nat_cmp name n ≡ Less) (canonicals (done ++ d ∷ rest)) → slice_cmp nat_cmp name d.canonical ≡ Less
before_middle name [] d rest h = h.0
before_middle name (c ∷ done) d rest h = before_middle name done d rest h.1

pub embedded_last : (done : List Document) (d : Document) (rest : List Document) (ms : List (Text × Value)) → Ascend (done ++ d ∷ rest)
    → members_with_documents (done ++ d ∷ []) ms ≡ put_member d.canonical (under_its_uri d) (members_with_documents done ms)
unfolding IsStrictlySortedBy
embedded_last [] d rest ms sorted = refl
embedded_last (c ∷ done) d rest ms sorted =
    ap (put_member c.canonical (under_its_uri c)) (embedded_last done d rest ms sorted.1)
    ∙ put_either_first c.canonical d.canonical (under_its_uri c) (under_its_uri d) (members_with_documents done ms) (before_middle c.canonical done d rest sorted.0)

-- one of the others more
pub embedded_more : (others : List Constituent) (i : ℕ) (o : Constituent) (ms : List (Text × Value)) → i < length others → o ≡ get_or others i o → Ascend (map constituent_view others)
    → members_with_documents (map constituent_view (take (i + 1) others)) ms ≡ put_member o.uri.now (under_its_uri (constituent_view o)) (members_with_documents (map constituent_view (take i others)) ms)
embedded_more others i o ms l is sorted =
    let ds = map constituent_view others in
    let before = map constituent_view (take i others) in
    let rest = drop (i + 1) ds in
    let split : ds ≡ before ++ constituent_view o ∷ rest =
    sym (take-append-drop i ds) ∙ ap₂ (λ xs ys. xs ++ ys) (take-map constituent_view i others) (drop_more-map constituent_view others i o l is) in
    ap (λ es. members_with_documents es ms) (map-take_more constituent_view others i o l is) ∙ embedded_last before (constituent_view o) rest ms (subst Ascend split sorted)

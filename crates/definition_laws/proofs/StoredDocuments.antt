-- Documents by their canonical URIs.
use Rattle.std.proofs.Common.{◌≡◌, ◌≢◌, ◌↔◌, ◌&&◌, List, [], ◌∷◌, Bool, true, false, not, cond, Option, Some, None, is_some, filter, find, codes, Contains, refl, sym, ap, ◌∙◌, subst, true≢false, IsTrue}
use Rattle.std.proofs.lemmas.Bool.{and_from, not-true}
use Rattle.std.specs.Cmp.Lexicographic.{bytes_decides}
use Rattle.std.specs.List.{list_any}
use Rattle.definitions.specs.Values.{Text, Value, same_text, text_at}
use Rattle.definitions.specs.Schemas.{Document, document_from, schema_at, opened_schema, is_root}
use Rattle.definitions.specs.Reach.{holds_resource, reach, holds}
use Rattle.definitions.specs.Documents.{document_of, others_of, resources_of, taken_uri, AreSound}
use Rattle.definitions.specs.Searches.{Search}
use Rattle.definitions.specs.Keeping.{AreKept}
use Rattle.definition_laws.specs.Storing.{IsHeldByAnother, IsTaken}
use Rattle.lemmas.proofs.Texts.{same_text_itself}
use Rattle.definition_laws.proofs.Membership.{nothing_in, any_at, any_where, in_filter, from_filter, one_of, found_there, found_some}
use Rattle.definition_laws.proofs.ReachedSets.{same_text-back}
use Rattle.definition_laws.proofs.Resources.{one_document}
use Rattle.definition_laws.proofs.LeastTexts.{least_is_least, no_least}
use Rattle.definition_laws.proofs.KeptReaches.{kept_distinct, kept_reach_is_least}

-- ---- a document's root
root_at : (base : Text) (v : Value) (id : Option Text) → is_root (opened_schema base [] v id) ≡ true
root_at base v None = refl
root_at base v (Some id) = refl

first_found : {X : Type 0} (p : X → Bool) (x : X) (xs : List X) → p x ≡ true → is_some (find p (x ∷ xs)) ≡ true
first_found p x xs e = ap (λ b. is_some (cond b (Some x) (find p xs))) e

pub holds_itself : (base : Text) (v : Value) → holds_resource (document_from base v).canonical (document_from base v) ≡ true
holds_itself base v =
    let root = schema_at base [] v in
    first_found (λ s. same_text root.resource s.resource && is_root s) root _
    (and_from (same_text root.resource root.resource) (is_root root) (same_text_itself root.resource) (root_at base v (text_at (codes "$id") v)))

pub reaches_itself : (search : Search) (ds : List Document) (d : Document) → AreKept search ds → Contains ds d → Contains (reach ds d.canonical) d
reaches_itself search ds d kept c =
    let own : holds_resource d.canonical d ≡ true = subst (λ x. holds_resource x.canonical x ≡ true) (sym (kept.named d c)) (holds_itself d.base d.value) in
    (kept_reach_is_least search ds kept d.canonical d).1 (holds c own)

-- ---- the document with a URI
pub found_by_uri : (search : Search) (ds : List Document) (uri : Text) (d : Document) → AreKept search ds
    → (document_of ds uri ≡ Some d) ↔ (Contains ds d × (d.canonical ≡ uri))
found_by_uri search ds uri d kept = (from_found, to_found)
  where
    from_found : document_of ds uri ≡ Some d → Contains ds d × (d.canonical ≡ uri)
    from_found e =
        let there = found_there (λ (x : Document). same_text uri x.canonical) ds d e in
        (there.0, sym ((bytes_decides uri d.canonical).0 there.1))

    to_found : Contains ds d × (d.canonical ≡ uri) → document_of ds uri ≡ Some d
    to_found h =
        let some_one : (z : Document) × (document_of ds uri ≡ Some z) =
        found_some (λ (x : Document). same_text uri x.canonical) d ds h.0 ((bytes_decides uri d.canonical).1 (sym h.1)) in
        let there = found_there (λ (x : Document). same_text uri x.canonical) ds some_one.0 some_one.1 in
        let same : some_one.0 ≡ d =
        one_of same_text (λ (x : Document). x.canonical) same_text-back ds (kept_distinct search ds kept) some_one.0 d there.0 h.0
        (same_text-back d.canonical some_one.0.canonical (ap (λ t. same_text t some_one.0.canonical) h.1 ∙ there.1)) in
        some_one.1 ∙ ap Some same

-- ---- the document with a resource
pub one_holder : (search : Search) (ds : List Document) (uri : Text) (d : Document) → AreKept search ds → Contains ds d → IsTrue (holds_resource uri d)
    → find (holds_resource uri) ds ≡ Some d
one_holder search ds uri d kept c holds_d =
    let some_one : (z : Document) × (find (holds_resource uri) ds ≡ Some z) = found_some (holds_resource uri) d ds c holds_d in
    let there = found_there (holds_resource uri) ds some_one.0 some_one.1 in
    some_one.1 ∙ ap Some (one_document ds uri some_one.0 d kept.distinct there.0 c there.1 holds_d)

pub canonical_holder : (search : Search) (ds : List Document) (uri : Text) (d : Document) → AreKept search ds → document_of ds uri ≡ Some d
    → find (holds_resource uri) ds ≡ Some d
canonical_holder search ds uri d kept e =
    let there = (found_by_uri search ds uri d kept).0 e in
    let own : holds_resource d.canonical d ≡ true = subst (λ x. holds_resource x.canonical x ≡ true) (sym (kept.named d there.0)) (holds_itself d.base d.value) in
    one_holder search ds uri d kept there.0 (ap (λ u. holds_resource u d) (sym there.1) ∙ own)

-- ---- URIs that another document has
differs : (d e : Document) → not (same_text d.canonical e.canonical) ≡ true → d.canonical ≢ e.canonical
differs d e h same = true≢false (sym ((bytes_decides d.canonical e.canonical).1 same) ∙ not-true (same_text d.canonical e.canonical) h)

different : (d e : Document) → d.canonical ≢ e.canonical → (b : Bool) → same_text d.canonical e.canonical ≡ b → not b ≡ true
different d e h true is = absurd (h ((bytes_decides d.canonical e.canonical).0 is))
different d e h false is = refl

held_kept : (ds : List Document) (d : Document) (uri : Text) → Contains (resources_of d) uri → IsHeldByAnother ds d uri
    → Contains (filter (λ u. list_any (holds_resource u) (others_of d.canonical ds)) (resources_of d)) uri
held_kept ds d uri c held =
    in_filter (λ u. list_any (holds_resource u) (others_of d.canonical ds)) uri (resources_of d) c
    (any_at (holds_resource uri) held.other (others_of d.canonical ds)
    (in_filter (λ x. not (same_text d.canonical x.canonical)) held.other ds held.inside (different d held.other held.differs (same_text d.canonical held.other.canonical) refl))
    held.holds)

pub taken_is_held : (ds : List Document) (d : Document) (uri : Text) → taken_uri ds d ≡ Some uri → IsTaken ds d uri
taken_is_held ds d uri e =
    let low = least_is_least (filter (λ u. list_any (holds_resource u) (others_of d.canonical ds)) (resources_of d)) uri e in
    let own = from_filter (λ u. list_any (holds_resource u) (others_of d.canonical ds)) uri (resources_of d) low.inside in
    let by : (x : Document) × (Contains (others_of d.canonical ds) x × (holds_resource uri x ≡ true)) = any_where (holds_resource uri) (others_of d.canonical ds) own.1 in
    let other = from_filter (λ x. not (same_text d.canonical x.canonical)) by.0 ds by.1.0 in
    record {
      own = own.0;
      held = record { other = by.0; inside = other.0; differs = differs d by.0 other.1; holds = by.1.1 };
      none_less = λ u c held. low.none_less u (held_kept ds d u c held);
    }

pub free_is_unheld : (ds : List Document) (d : Document) (uri : Text) → taken_uri ds d ≡ None → Contains (resources_of d) uri → IsHeldByAnother ds d uri → ⊥
free_is_unheld ds d uri e c held =
    nothing_in uri (subst (λ us. Contains us uri) (no_least (filter (λ u. list_any (holds_resource u) (others_of d.canonical ds)) (resources_of d)) e) (held_kept ds d uri c held))

-- ---- as a source has them
pub kept_sound : (search : Search) (ds : List Document) → AreKept search ds → AreSound ds
kept_sound search ds kept = record { ascend = kept.ordered; distinct = kept.distinct; made = kept.named; faultless = kept.scanned }

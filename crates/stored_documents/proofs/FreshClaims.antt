-- Claims that no document stands for: where some are released, and where documents are put or taken out.
use Rattle.std.proofs.Common.{◌≡◌, ℕ, ◌+◌, ◌<◌, ◌++◌, Bool, true, false, cond, not, List, [], ◌∷◌, map, take, length, get_or, Contains, Option, Some, None, find, is_some, option_map, string_bytes, sym, refl, ap, ◌∙◌, subst, inl, inr, true≢false}
use Rattle.std.proofs.lemmas.Bool.{false_from_ne_true}
use Rattle.std.proofs.lemmas.List.Elements.{Contains-append_cases}
use Rattle.std.specs.BTreeMap.{BTreeMap, get_by_text}
use Rattle.std.specs.Cmp.Lexicographic.{bytes_decides}
use Rattle.std.specs.Global.{Global}
use Rattle.std.specs.List.{list_any}
use Rattle.std.specs.declared.rc.Rc.{Rc}
use Rattle.std.specs.declared.string.String.{String}
use Rattle.definitions.specs.Documents.{canonicals, document_of, documents_with_all, others_of, resources_of, resource_uris_of}
use Rattle.definitions.specs.Lists.{has_repeat}
use Rattle.definitions.specs.Reach.{holds_resource}
use Rattle.definitions.specs.Schemas.{Document, schemas_of}
use Rattle.definitions.specs.Values.{Text, same_text}
use Rattle.definition_laws.proofs.JoinedDocuments.{in_all}
use Rattle.definition_laws.proofs.Membership.{nothing_in, is_first, is_later, first_or_later, any_where, found_none, found_some, in_filter}
use Rattle.definition_laws.proofs.Repeats.{none_of, in_flat_map, from_flat_map}
use Rattle.definition_laws.proofs.Resources.{opened_is_root, root_opens}
use Rattle.lemmas.proofs.Lists.{flat_map-push, map-take_more}
use Rattle.stored_documents.specs.Claims.{claim_of, claimed_uris, claims_in, claims_of, ClaimsOnly}
use Rattle.stored_documents.specs.DocumentLists.{documents_in}
use Rattle.stored_documents.specs.SharedStored.{stored_documents}
use Rattle.stored_documents.specs.StaleClaims.{IsStale, NoneIsStale, Releases, StaysFresh}
use Rattle.stored_documents.specs.StoredDocuments.{stored_view}
use Rattle.stored_documents.specs.declared.documents.Documents.{Documents}
use Rattle.stored_documents.specs.declared.stored.Stored.{Stored}
use Rattle.definitions.specs.Keeping.{AreKept}
use Rattle.definitions.specs.Patterns.{regular_search}
use Rattle.definition_laws.proofs.StoredDocuments.{found_by_uri}
use Rattle.stored_documents.proofs.ClaimedDocuments.{each_placed, from_claims, is_same, nowhere}

-- a document that holds what none holds
unheld : (ds : List Document) (uri : Text) (d : Document) → find (holds_resource uri) ds ≡ None → Contains ds d → holds_resource uri d ≡ true → ⊥
unheld ds uri d none k h =
    let some_one : (z : Document) × (find (holds_resource uri) ds ≡ Some z) = found_some (holds_resource uri) d ds k h in
    nowhere some_one.0 (sym none ∙ some_one.1)

-- ---- nothing changes, and one release after another
pub stays : (d : Documents) → StaysFresh d d
unfolding StaysFresh
stays d u s = s

pub released_none : (d : Documents) → Releases d [] d
unfolding Releases
released_none d u s = (s, λ k. nothing_in u k)

pub releases_fresh : (before after : Documents) (us : List Text) → Releases before us after → StaysFresh before after
unfolding Releases StaysFresh
releases_fresh before after us released u s = (released u s).0

released_more : (a b c : Documents) (us vs : List Text) → Releases a us b → Releases b vs c → Releases a (us ++ vs) c
unfolding Releases
released_more a b c us vs first next u s =
    let later = next u s in
    let earlier = first u later.0 in (
      earlier.0,
      λ k. elim (Contains-append_cases us vs u k) [
        | inl here ↦ earlier.1 here
        | inr there ↦ later.1 there
      ],
    )

pub released_next : {X : Type 0} (a b c : Documents) (f : X → Text) (xs : List X) (i : ℕ) (x : X) (uri : Text) → i < length xs → x ≡ get_or xs i x → uri ≡ f x
    → Releases a (map f (take i xs)) b → Releases b (uri ∷ []) c → Releases a (map f (take (i + 1) xs)) c
released_next a b c f xs i x uri l is same first next =
    subst (λ us. Releases a us c) (sym (map-take_more f xs i x l is))
    (released_more a b c (map f (take i xs)) (f x ∷ []) first (subst (λ u. Releases b (u ∷ []) c) same next))

pub released_documents_next : (a b c : Documents) (ss : List (Rc Stored Global)) (i : ℕ) (s : Rc Stored Global) (d : Stored) → i < length ss → s ≡ get_or ss i s → d ≡ s.value
    → Releases a (resource_uris_of (stored_documents (take i ss))) b → Releases b (resources_of (stored_view d)) c
    → Releases a (resource_uris_of (stored_documents (take (i + 1) ss))) c
unfolding stored_documents
released_documents_next a b c ss i s d l is same first next =
    let view : Rc Stored Global → Document = λ x. stored_view x.value in
    subst (λ us. Releases a us c)
    (sym (ap resource_uris_of (map-take_more view ss i s l is) ∙ flat_map-push resources_of (map view (take i ss)) (view s)))
    (released_more a b c (resource_uris_of (map view (take i ss))) (resources_of (view s)) first (subst (λ x. Releases b (resources_of (stored_view x)) c) same next))

-- ---- one claim is released, or it is needed
pub one_released : (before after : Documents) (uri : Text) → documents_in after ≡ documents_in before
    → ((u : Text) → get_by_text after.claims u ≡ cond (same_text uri u) None (get_by_text before.claims u)) → Releases before (uri ∷ []) after
unfolding Releases IsStale claim_of
one_released before after uri same change u s = at (same_text uri u) refl
  where
    shown : Option (Rc Stored Global) → Option Text
    shown o = option_map (λ (x : Rc Stored Global). (stored_view x.value).canonical) o

    at : (b : Bool) → same_text uri u ≡ b
        → ((is_some (shown (get_by_text before.claims u)) ≡ true) × (find (holds_resource u) (documents_in before) ≡ None)) × ¬ Contains (uri ∷ []) u
    at true e = absurd (true≢false (sym s.0 ∙ ap (λ o. is_some (shown o)) (change u ∙ ap (λ b. cond b None (get_by_text before.claims u)) e)))
    at false e = (
      (
        sym (ap (λ o. is_some (shown o)) (change u ∙ ap (λ b. cond b None (get_by_text before.claims u)) e)) ∙ s.0,
        sym (ap (find (holds_resource u)) same) ∙ s.1,
      ),
      λ k. elim (first_or_later uri u [] k) [
        | inl is ↦ true≢false (sym ((bytes_decides uri u).1 is) ∙ e)
        | inr later ↦ nothing_in u later
      ],
    )

pub one_held : (d : Documents) (uri : Text) → is_some (find (holds_resource uri) (documents_in d)) ≡ true → Releases d (uri ∷ []) d
unfolding Releases IsStale
one_held d uri held u s = (
  s,
  λ k. elim (first_or_later uri u [] k) [
    | inl is ↦ true≢false (sym held ∙ ap (λ t. is_some (find (holds_resource t) (documents_in d))) is ∙ ap is_some s.1)
    | inr later ↦ nothing_in u later
  ],
)

-- ---- claims that were made are given up
pub given_up : (before mid after : Documents) (us : List Text) → documents_in mid ≡ documents_in before → ClaimsOnly before.claims us mid.claims → Releases mid us after → StaysFresh before after
unfolding ClaimsOnly Releases StaysFresh IsStale
given_up before mid after us same only released u s =
    let r = released u s in
    elim (only u r.0.0) [
      | inl was ↦ (was, sym (ap (find (holds_resource u)) same) ∙ r.0.1)
      | inr new_claims ↦ absurd (r.1 new_claims)
    ]

-- ---- documents were put
pub put_fresh : (before mid after : Documents) (es : List Document) (us vs : List Text) → documents_in mid ≡ documents_with_all es (documents_in before)
    → has_repeat same_text (canonicals es) ≡ false → ClaimsOnly before.claims us mid.claims
    → ((u : Text) → Contains us u → Contains (resource_uris_of es) u)
    → ((x e : Document) → Contains (documents_in before) x → Contains es e → e.canonical ≡ x.canonical → (u : Text) → Contains (resources_of x) u → Contains vs u)
    → Releases mid vs after → StaysFresh before after
unfolding ClaimsOnly Releases StaysFresh IsStale
put_fresh before mid after es us vs placed once only own replaced released u s =
    let r = released u s in
    let none : find (holds_resource u) (documents_with_all es (documents_in before)) ≡ None = sym (ap (find (holds_resource u)) placed) ∙ r.0.1 in
    elim (only u r.0.0) [
      | inl was ↦ (
        was,
        found_none (holds_resource u) (documents_in before) (λ x k. false_from_ne_true (holds_resource u x) (λ h.
            at x k h none (λ gone. r.1 gone) (list_any (λ (e : Document). same_text e.canonical x.canonical) es) refl)),
      )
      | inr new_claims ↦
          let by : (e : Document) × (Contains es e × Contains (resources_of e) u) = from_flat_map resources_of u es (own u new_claims) in
          absurd (unheld (documents_with_all es (documents_in before)) u by.0 none (each_placed es (documents_in before) once by.0 by.1.0)
          (opened_is_root (schemas_of by.0.base by.0.value) u u by.1.1 ((bytes_decides u u).1 refl)))
    ]
  where
    at : (x : Document) → Contains (documents_in before) x → holds_resource u x ≡ true → find (holds_resource u) (documents_with_all es (documents_in before)) ≡ None
        → ¬ Contains vs u → (b : Bool) → list_any (λ (e : Document). same_text e.canonical x.canonical) es ≡ b → ⊥
    at x k h none kept true e =
        let by : (y : Document) × (Contains es y × (same_text y.canonical x.canonical ≡ true)) = any_where (λ (y : Document). same_text y.canonical x.canonical) es e in
        kept (replaced x by.0 k by.1.0 ((bytes_decides by.0.canonical x.canonical).0 by.1.1) u (root_opens (schemas_of x.base x.value) u h))
    at x k h none kept false e =
        unheld (documents_with_all es (documents_in before)) u x none
        (in_all es (documents_in before) x k (λ y c. none_of (λ (z : Document). same_text z.canonical x.canonical) y es e c)) h

-- ---- one was taken out
pub taken_fresh : (before mid after : Documents) (canonical : Text) (vs : List Text) → documents_in mid ≡ others_of canonical (documents_in before) → mid.claims ≡ before.claims
    → ((x : Document) → Contains (documents_in before) x → canonical ≡ x.canonical → (u : Text) → Contains (resources_of x) u → Contains vs u)
    → Releases mid vs after → StaysFresh before after
unfolding Releases StaysFresh IsStale
taken_fresh before mid after canonical vs left same taken released u s =
    let r = released u s in
    let none : find (holds_resource u) (others_of canonical (documents_in before)) ≡ None = sym (ap (find (holds_resource u)) left) ∙ r.0.1 in (
      sym (ap (λ cs. is_some (claim_of cs u)) same) ∙ r.0.0,
      found_none (holds_resource u) (documents_in before) (λ x k. false_from_ne_true (holds_resource u x) (λ h. at x k h none (λ gone. r.1 gone) (same_text canonical x.canonical) refl)),
    )
  where
    at : (x : Document) → Contains (documents_in before) x → holds_resource u x ≡ true → find (holds_resource u) (others_of canonical (documents_in before)) ≡ None
        → ¬ Contains vs u → (b : Bool) → same_text canonical x.canonical ≡ b → ⊥
    at x k h none kept true e = kept (taken x k ((bytes_decides canonical x.canonical).0 e) u (root_opens (schemas_of x.base x.value) u h))
    at x k h none kept false e =
        unheld (others_of canonical (documents_in before)) u x none (in_filter (λ (d : Document). not (same_text canonical d.canonical)) x (documents_in before) k (ap not e)) h

-- ---- nothing is claimed
pub none_claimed_yet : (claims : BTreeMap (String Global) (Rc Stored Global)) → claims.entries ≡ [] → (u : Text) → is_some (claim_of claims u) ≡ true → ⊥
unfolding claim_of
none_claimed_yet claims e u h = true≢false (sym h ∙ ap (λ (o : Option (Rc Stored Global)). is_some (option_map (λ (x : Rc Stored Global). (stored_view x.value).canonical) o)) (unclaimed_yet claims e u))
  where
    unclaimed_yet : (cs : BTreeMap (String Global) (Rc Stored Global)) → cs.entries ≡ [] → (t : Text) → get_by_text cs t ≡ None
    unclaimed_yet cs e t = rw e refl

pub fresh_yet : (d : Documents) → d.claims.entries ≡ [] → NoneIsStale d
unfolding NoneIsStale IsStale
fresh_yet d e u s = none_claimed_yet d.claims e u s.0

-- ---- the document with the canonical URI, where it is put or taken out
pub is_gone : (ds : List Document) (uri : Text) (o : Option (Rc Stored Global)) (s : Rc Stored Global) (t : Stored) → AreKept regular_search ds
    → option_map (λ (r : Rc Stored Global). stored_view r.value) o ≡ document_of ds uri → o ≡ Some s → t ≡ s.value
    → (x : Document) → Contains ds x → uri ≡ x.canonical → (u : Text) → Contains (resources_of x) u → Contains (resources_of (stored_view t)) u
is_gone ds uri o s t kept found is same x k named u own =
    let there : Some (stored_view s.value) ≡ Some x =
    sym (ap (option_map (λ (r : Rc Stored Global). stored_view r.value)) is) ∙ found ∙ (found_by_uri regular_search ds uri x kept).1 (k, sym named) in
    subst (λ d. Contains (resources_of d) u) (sym (ap stored_view same ∙ is_same (stored_view s.value) x there)) own

pub none_gone : (ds : List Document) (uri : Text) (o : Option (Rc Stored Global)) → AreKept regular_search ds
    → option_map (λ (r : Rc Stored Global). stored_view r.value) o ≡ document_of ds uri → o ≡ None
    → (x : Document) → Contains ds x → uri ≡ x.canonical → ⊥
none_gone ds uri o kept found is x k named =
    nowhere x (sym (ap (option_map (λ (r : Rc Stored Global). stored_view r.value)) is) ∙ found ∙ (found_by_uri regular_search ds uri x kept).1 (k, sym named))

-- ---- the URIs of claims that were made
with_claim : (ps : List (String Global × Rc Stored Global)) (u : Text) → Contains (claimed_uris ps) u → (t : Text) × Contains (claims_in ps) (u, t)
unfolding claimed_uris claims_in
with_claim [] u k = absurd (nothing_in u k)
with_claim (p ∷ ps) u k =
    let own : Text × Text = (string_bytes p.0, (stored_view p.1.value).canonical) in
    let later : List (Text × Text) = map (λ (q : String Global × Rc Stored Global). (string_bytes q.0, (stored_view q.1.value).canonical)) ps in
    elim (first_or_later (string_bytes p.0) u (map (λ (q : String Global × Rc Stored Global). string_bytes q.0) ps) k) [
      | inl same ↦ (own.1, subst (λ t. Contains (own ∷ later) (t, own.1)) same (is_first own later))
      | inr rest ↦ let found : (t : Text) × Contains later (u, t) = with_claim ps u rest in (found.0, is_later own (u, found.0) later found.1)
    ]

pub own_uris : (ps : List (String Global × Rc Stored Global)) (es : List Document) → claims_in ps ≡ claims_of es → (u : Text) → Contains (claimed_uris ps) u → Contains (resource_uris_of es) u
own_uris ps es new_claims u k =
    let claim : (t : Text) × Contains (claims_in ps) (u, t) = with_claim ps u k in
    let by = from_claims es u claim.0 (subst (λ qs. Contains qs (u, claim.0)) new_claims claim.1) in
    in_flat_map resources_of by.0 u es by.1.0 (root_opens (schemas_of by.0.base by.0.value) u by.1.1.0)

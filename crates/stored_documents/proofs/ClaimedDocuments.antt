-- Claims of the URIs of resources, among documents that are kept.
use Rattle.std.proofs.Common.{◌≡◌, Bool, true, false, not, cond, List, [], ◌∷◌, ◌++◌, map, Contains, Option, Some, None, find, is_some, unwrap_or, option_map, option_and_then, ◌⊎◌, sym, refl, ap, ◌∙◌, subst, inl, inr, true≢false}
use Rattle.std.proofs.lemmas.Bool.{false_from_ne_true, or_parts}
use Rattle.std.specs.BTreeMap.{BTreeMap, get_by_text}
use Rattle.std.specs.Cmp.Lexicographic.{bytes_decides}
use Rattle.std.specs.Global.{Global}
use Rattle.std.specs.List.{list_any}
use Rattle.std.specs.declared.rc.Rc.{Rc}
use Rattle.std.specs.declared.string.String.{String}
use Rattle.definitions.specs.Documents.{canonicals, document_of, others_of, documents_with, documents_with_all, resources_of, resource_uris_of}
use Rattle.definitions.specs.Keeping.{AreKept}
use Rattle.definitions.specs.Lists.{has_repeat}
use Rattle.definitions.specs.Patterns.{regular_search}
use Rattle.definitions.specs.Reach.{holds_resource}
use Rattle.definitions.specs.Schemas.{Document, schemas_of}
use Rattle.definitions.specs.Values.{Text, same_text}
use Rattle.definition_laws.proofs.JoinedDocuments.{first_apart, from_all, in_all}
use Rattle.definition_laws.proofs.Membership.{nothing_in, is_first, is_later, first_or_later, from_filter, in_map, found_none, found_some}
use Rattle.definition_laws.proofs.PlacedDocuments.{placed_itself}
use Rattle.definition_laws.proofs.Repeats.{in_flat_map, from_flat_map}
use Rattle.definition_laws.proofs.Resources.{one_document, opened_is_root, root_opens, same_text-unlike}
use Rattle.definition_laws.proofs.StoredDocuments.{found_by_uri, one_holder}
use Rattle.stored_documents.specs.Claims.{claim_of, claims_of, last_claim, own_claims, AreClaimed}
use Rattle.stored_documents.specs.StoredDocuments.{stored_view}
use Rattle.stored_documents.specs.declared.stored.Stored.{Stored}

pub is_same : {X : Type 0} (x y : X) → Some x ≡ Some y → x ≡ y
is_same x y e = ap (λ o. unwrap_or o x) e

pub nowhere : {X : Type 0} (x : X) → None ≡ Some x → ⊥
nowhere x e = cc

-- ---- who has a resource
pub unclaimed : (claims : BTreeMap (String Global) (Rc Stored Global)) (ds : List Document) (uri : Text) → AreClaimed claims ds → claim_of claims uri ≡ None → find (holds_resource uri) ds ≡ None
unfolding AreClaimed
unclaimed claims ds uri claimed none =
    found_none (holds_resource uri) ds (λ d k. false_from_ne_true (holds_resource uri d) (λ h. nowhere d.canonical (sym none ∙ claimed d k uri h)))

pub claimed_holder : (claims : BTreeMap (String Global) (Rc Stored Global)) (ds : List Document) (uri claim : Text) → AreKept regular_search ds → AreClaimed claims ds → claim_of claims uri ≡ Some claim
    → option_and_then (λ (d : Document). cond (holds_resource uri d) (Some d) None) (document_of ds claim) ≡ find (holds_resource uri) ds
unfolding AreClaimed
claimed_holder claims ds uri claim kept claimed is = at (document_of ds claim) refl
  where
    standing : (d : Document) → Contains ds d → holds_resource uri d ≡ true → document_of ds claim ≡ Some d
    standing d k h = (found_by_uri regular_search ds claim d kept).1 (k, is_same d.canonical claim (sym (claimed d k uri h) ∙ is))

    there : (x : Document) (b : Bool) → document_of ds claim ≡ Some x → holds_resource uri x ≡ b → cond b (Some x) None ≡ find (holds_resource uri) ds
    there x true e h = sym (one_holder regular_search ds uri x kept ((found_by_uri regular_search ds claim x kept).0 e).0 h)
    there x false e h =
        sym (found_none (holds_resource uri) ds (λ d k. false_from_ne_true (holds_resource uri d) (λ held.
        true≢false (sym held ∙ ap (holds_resource uri) (is_same d x (sym (standing d k held) ∙ e)) ∙ h))))

    at : (o : Option Document) → document_of ds claim ≡ o → option_and_then (λ (d : Document). cond (holds_resource uri d) (Some d) None) o ≡ find (holds_resource uri) ds
    at None e = sym (found_none (holds_resource uri) ds (λ d k. false_from_ne_true (holds_resource uri d) (λ held. nowhere d (sym e ∙ standing d k held))))
    at (Some x) e = there x (holds_resource uri x) e refl

-- ---- where a claim is released
pub released : (claims now : BTreeMap (String Global) (Rc Stored Global)) (ds : List Document) (uri : Text) → AreClaimed claims ds → find (holds_resource uri) ds ≡ None
    → ((u : Text) → get_by_text now u ≡ cond (same_text uri u) None (get_by_text claims u)) → AreClaimed now ds
unfolding AreClaimed claim_of
released claims now ds uri claimed none change d k u h =
    ap (option_map (λ (s : Rc Stored Global). (stored_view s.value).canonical)) (change u) ∙ rest (same_text uri u) refl ∙ claimed d k u h
  where
    rest : (b : Bool) → same_text uri u ≡ b
        → option_map (λ (s : Rc Stored Global). (stored_view s.value).canonical) (cond b None (get_by_text claims u))
        ≡ option_map (λ (s : Rc Stored Global). (stored_view s.value).canonical) (get_by_text claims u)
    rest true e =
        let held : holds_resource uri d ≡ true = subst (λ t. holds_resource t d ≡ true) (sym ((bytes_decides uri u).0 e)) h in
        let some_one : (z : Document) × (find (holds_resource uri) ds ≡ Some z) = found_some (holds_resource uri) d ds k held in
        absurd (nowhere some_one.0 (sym none ∙ some_one.1))
    rest false e = refl

-- ---- where claims are made
last_same : (u c : Text) (ps : List (Text × Text)) (before : Text) → ((t : Text) → Contains ps (u, t) → t ≡ c) → before ≡ c → last_claim u ps before ≡ c
last_same u c [] before own e = e
last_same u c (p ∷ ps) before own e = last_same u c ps (cond (same_text p.0 u) p.1 before) (λ t k. own t (is_later p (u, t) ps k)) (at (same_text p.0 u) refl)
  where
    at : (b : Bool) → same_text p.0 u ≡ b → cond b p.1 before ≡ c
    at true h = own p.1 (subst (λ t. Contains (p ∷ ps) (t, p.1)) ((bytes_decides p.0 u).0 h) (is_first p ps))
    at false h = e

last_there : (u c : Text) (ps : List (Text × Text)) (before : Text) → ((t : Text) → Contains ps (u, t) → t ≡ c) → Contains ps (u, c) → last_claim u ps before ≡ c
last_there u c [] before own k = absurd (nothing_in (u, c) k)
last_there u c (p ∷ ps) before own k = elim (first_or_later p (u, c) ps k) [
  | inl same ↦ last_same u c ps (cond (same_text p.0 u) p.1 before) (λ t i. own t (is_later p (u, t) ps i))
      (ap (λ (q : Text × Text). cond (same_text q.0 u) q.1 before) same ∙ ap (λ b. cond b c before) ((bytes_decides u u).1 refl))
  | inr later ↦ last_there u c ps (cond (same_text p.0 u) p.1 before) (λ t i. own t (is_later p (u, t) ps i)) later
]

from_pairs : (us : List Text) (c u t : Text) → Contains {X = Text × Text} (map (λ (v : Text). (v, c)) us) (u, t) → Contains us u × (t ≡ c)
from_pairs [] c u t k = absurd (nothing_in (u, t) k)
from_pairs (v ∷ us) c u t k = elim (first_or_later (v, c) (u, t) (map (λ (w : Text). (w, c)) us) k) [
  | inl same ↦ (subst (Contains (v ∷ us)) (ap (λ (q : Text × Text). q.0) same) (is_first v us), sym (ap (λ (q : Text × Text). q.1) same))
  | inr later ↦ let rest = from_pairs us c u t later in (is_later v u us rest.0, rest.1)
]

in_claims : (es : List Document) (x : Document) (u : Text) → Contains es x → holds_resource u x ≡ true → Contains (claims_of es) (u, x.canonical)
unfolding claims_of own_claims
in_claims es x u k h = in_flat_map own_claims x (u, x.canonical) es k (in_map (λ (t : Text). (t, x.canonical)) u (resources_of x) (root_opens (schemas_of x.base x.value) u h))

pub from_claims : (es : List Document) (u t : Text) → Contains (claims_of es) (u, t) → (e : Document) × (Contains es e × ((holds_resource u e ≡ true) × (t ≡ e.canonical)))
unfolding claims_of own_claims
from_claims es u t k =
    let from : (e : Document) × (Contains es e × Contains (own_claims e) (u, t)) = from_flat_map own_claims (u, t) es k in
    let own = from_pairs (resources_of from.0) from.0.canonical u t from.1.1 in
    (from.0, (from.1.0, (opened_is_root (schemas_of from.0.base from.0.value) u u own.0 ((bytes_decides u u).1 refl), own.1)))

claims_put : (claims now : BTreeMap (String Global) (Rc Stored Global)) (es ds after : List Document) → AreClaimed claims ds
    → ((u c : Text) → Contains (claims_of es) (u, c) → is_some (claim_of claims u) ≡ true)
    → ((u : Text) → claim_of now u ≡ option_map (last_claim u (claims_of es)) (claim_of claims u))
    → ((x : Document) → Contains after x → Contains es x ⊎ Contains ds x) → ((e : Document) → Contains es e → Contains after e)
    → has_repeat same_text (resource_uris_of after) ≡ false → AreClaimed now after
unfolding AreClaimed
claims_put claims now es ds after claimed there new_claims from within distinct x k u h =
    let own : (t : Text) → Contains (claims_of es) (u, t) → t ≡ x.canonical =
    λ t i. let by = from_claims es u t i in by.1.1.1 ∙ ap (λ (d : Document). d.canonical) (one_document after u by.0 x distinct (within by.0 by.1.0) k by.1.1.0 h) in
    elim (from x k) [
      | inl e ↦
          let i = in_claims es x u e h in
          new_claims u ∙ some_claim (claim_of claims u) (there u x.canonical i) (λ before. last_there u x.canonical (claims_of es) before own i)
      | inr d ↦ new_claims u ∙ ap (option_map (last_claim u (claims_of es))) (claimed x d u h) ∙ ap Some (last_same u x.canonical (claims_of es) x.canonical own refl)
    ]
  where
    some_claim : (o : Option Text) → is_some o ≡ true → ((before : Text) → last_claim u (claims_of es) before ≡ x.canonical) → option_map (last_claim u (claims_of es)) o ≡ Some x.canonical
    some_claim None e f = absurd (true≢false (sym e))
    some_claim (Some before) e f = ap Some (f before)

-- ---- what is put is there
pub each_placed : (es ds : List Document) → has_repeat same_text (canonicals es) ≡ false → (e : Document) → Contains es e → Contains (documents_with_all es ds) e
each_placed [] ds once e k = absurd (nothing_in e k)
each_placed (f ∷ es) ds once e k =
    let apart = or_parts (list_any (same_text f.canonical) (canonicals es)) (has_repeat same_text (canonicals es)) once in
    elim (first_or_later f e es k) [
      | inl same ↦
          subst (Contains (documents_with_all es (documents_with f ds))) same
          (in_all es (documents_with f ds) f (placed_itself f ds) (λ g c. same_text-unlike f.canonical g.canonical (first_apart f es apart.0 g c)))
      | inr later ↦ each_placed es (documents_with f ds) apart.1 e later
    ]

-- the claims that were made being those of the documents that are put
pub claimed_after : (claims now : BTreeMap (String Global) (Rc Stored Global)) (es ds after : List Document) (ps : List (Text × Text)) → ps ≡ claims_of es → after ≡ documents_with_all es ds
    → has_repeat same_text (canonicals es) ≡ false → has_repeat same_text (resource_uris_of after) ≡ false → AreClaimed claims ds
    → ((u c : Text) → Contains ps (u, c) → is_some (claim_of claims u) ≡ true)
    → ((u : Text) → claim_of now u ≡ option_map (last_claim u ps) (claim_of claims u)) → AreClaimed now after
claimed_after claims now es ds after ps same put once distinct claimed there new_claims =
    claims_put claims now es ds after claimed
    (λ u c k. there u c (subst (λ qs. Contains qs (u, c)) (sym same) k))
    (λ u. new_claims u ∙ ap (λ qs. option_map (last_claim u qs) (claim_of claims u)) same)
    (λ x k. from_all es ds x (subst (λ xs. Contains xs x) put k))
    (λ e k. subst (λ xs. Contains xs e) (sym put) (each_placed es ds once e k))
    distinct

-- no documents, and fewer
pub none_claimed : (claims : BTreeMap (String Global) (Rc Stored Global)) (ds : List Document) → ds ≡ [] → AreClaimed claims ds
unfolding AreClaimed
none_claimed claims ds e d k u h = absurd (nothing_in d (subst (λ xs. Contains xs d) e k))

part_claimed : (claims : BTreeMap (String Global) (Rc Stored Global)) (ds after : List Document) → AreClaimed claims ds → ((x : Document) → Contains after x → Contains ds x) → AreClaimed claims after
unfolding AreClaimed
part_claimed claims ds after claimed from d k u h = claimed d (from d k) u h

pub others_claimed : (claims : BTreeMap (String Global) (Rc Stored Global)) (uri : Text) (ds after : List Document) → after ≡ others_of uri ds → AreClaimed claims ds → AreClaimed claims after
others_claimed claims uri ds after left claimed =
    part_claimed claims ds after claimed (λ x k. (from_filter (λ (d : Document). not (same_text uri d.canonical)) x ds (subst (λ xs. Contains xs x) left k)).0)

pub stay_claimed : (claims now : BTreeMap (String Global) (Rc Stored Global)) (ds : List Document) → AreClaimed claims ds → ((u c : Text) → claim_of claims u ≡ Some c → claim_of now u ≡ Some c) → AreClaimed now ds
unfolding AreClaimed
stay_claimed claims now ds claimed stay d k u h = stay u d.canonical (claimed d k u h)

-- one claim more
pub one_more_claim : (u : Text) (ps : List (Text × Text)) (p : Text × Text) (before : Text) → last_claim u (ps ++ p ∷ []) before ≡ cond (same_text p.0 u) p.1 (last_claim u ps before)
one_more_claim u [] p before = refl
one_more_claim u (q ∷ ps) p before = one_more_claim u ps p (cond (same_text q.0 u) q.1 before)

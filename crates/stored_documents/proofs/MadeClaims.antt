-- Claims that are made one after the other.
use Rattle.std.proofs.Common.{◌≡◌, ℕ, ◌+◌, ◌<◌, ◌++◌, ◌⊎◌, inl, inr, get_or, length, take, Contains, subst, cond, List, [], ◌∷◌, map, Option, Some, None, option_map, string_bytes, sym, refl, ap, ◌∙◌}
use Rattle.std.proofs.lemmas.List.{map-append}
use Rattle.std.specs.Global.{Global}
use Rattle.std.specs.declared.rc.Rc.{Rc}
use Rattle.std.specs.declared.string.String.{String}
use Rattle.definitions.specs.Schemas.{Document}
use Rattle.definitions.specs.Values.{Text, same_text}
use Rattle.definition_laws.proofs.Membership.{nothing_in, is_first, is_later, first_or_later}
use Rattle.lemmas.proofs.Lists.{flat_map-push, map-take_more}
use Rattle.stored_documents.specs.Claims.{claims_in, claims_of, last_claim, own_claims}
use Rattle.stored_documents.specs.SharedStored.{stored_documents}
use Rattle.stored_documents.specs.StoredDocuments.{stored_view}
use Rattle.stored_documents.specs.declared.stored.Stored.{Stored}
use Rattle.stored_documents.proofs.ClaimedDocuments.{one_more_claim}

pub none_made : (uri : Text) (o : Option Text) → o ≡ option_map (last_claim uri (claims_in [])) o
unfolding claims_in
none_made uri None = refl
none_made uri (Some claim) = refl

pub claims_pushed : (ps : List (String Global × Rc Stored Global)) (p : String Global × Rc Stored Global)
    → claims_in (ps ++ p ∷ []) ≡ claims_in ps ++ (string_bytes p.0, (stored_view p.1.value).canonical) ∷ []
unfolding claims_in
claims_pushed ps p = map-append (λ (q : String Global × Rc Stored Global). (string_bytes q.0, (stored_view q.1.value).canonical)) ps (p ∷ [])

pub made_one_more : (uri : Text) (ps : List (Text × Text)) (p : Text × Text) (o : Option Text)
    → option_map (λ claim. cond (same_text p.0 uri) p.1 claim) (option_map (last_claim uri ps) o) ≡ option_map (last_claim uri (ps ++ p ∷ [])) o
made_one_more uri ps p None = refl
made_one_more uri ps p (Some claim) = ap Some (sym (one_more_claim uri ps p claim))

pub claims_of_more : (ds : List Document) (d : Document) → claims_of (ds ++ d ∷ []) ≡ claims_of ds ++ own_claims d
unfolding claims_of
claims_of_more ds d = flat_map-push own_claims ds d

pub claims_of_one : (d : Document) → claims_of (d ∷ []) ≡ own_claims d
unfolding claims_of
claims_of_one d = claims_of_more [] d

pub last_or_before : {X : Type 0} (x y : X) (xs : List X) → Contains (xs ++ y ∷ []) x → Contains xs x ⊎ (y ≡ x)
last_or_before x y [] c = elim (first_or_later y x [] c) [
  | inl same ↦ inr same
  | inr later ↦ absurd (nothing_in x later)
]
last_or_before x y (z ∷ zs) c = elim (first_or_later z x (zs ++ y ∷ []) c) [
  | inl same ↦ inl (subst (Contains (z ∷ zs)) same (is_first z zs))
  | inr later ↦ elim (last_or_before x y zs later) [
    | inl before ↦ inl (is_later z x zs before)
    | inr same ↦ inr same
  ]
]

pub none_in : (p : Text × Text) → Contains (claims_in []) p → ⊥
unfolding claims_in
none_in p c = nothing_in p c

pub claims_taken : (ps : List (String Global × Rc Stored Global)) (i : ℕ) (p : String Global × Rc Stored Global) → i < length ps → p ≡ get_or ps i p
    → claims_in (take (i + 1) ps) ≡ claims_in (take i ps) ++ (string_bytes p.0, (stored_view p.1.value).canonical) ∷ []
unfolding claims_in
claims_taken ps i p l e = map-take_more (λ (q : String Global × Rc Stored Global). (string_bytes q.0, (stored_view q.1.value).canonical)) ps i p l e

pub uris_claimed : (canonical : Text) (us : List (String Global)) (i : ℕ) (u : String Global) → i < length us → u ≡ get_or us i u
    → map {B = Text × Text} (λ (t : Text). (t, canonical)) (map string_bytes (take (i + 1) us))
    ≡ map {B = Text × Text} (λ (t : Text). (t, canonical)) (map string_bytes (take i us)) ++ (string_bytes u, canonical) ∷ []
uris_claimed canonical us i u l e =
    let paired : Text → Text × Text = λ t. (t, canonical) in
    ap (map paired) (map-take_more string_bytes us i u l e) ∙ map-append paired (map string_bytes (take i us)) (string_bytes u ∷ [])

pub none_to_make : claims_in [] ≡ claims_of (stored_documents [])
unfolding claims_in claims_of stored_documents
none_to_make = refl

pub claims_of_taken : (ss : List (Rc Stored Global)) (i : ℕ) (s : Rc Stored Global) → i < length ss → s ≡ get_or ss i s
    → claims_of (stored_documents (take (i + 1) ss)) ≡ claims_of (stored_documents (take i ss)) ++ own_claims (stored_view s.value)
unfolding stored_documents
claims_of_taken ss i s l e =
    ap claims_of (map-take_more (λ (x : Rc Stored Global). stored_view x.value) ss i s l e)
    ∙ claims_of_more (map (λ (x : Rc Stored Global). stored_view x.value) (take i ss)) (stored_view s.value)

pub claims_made : (before new_claims : List (String Global × Rc Stored Global)) (d : Document) → before ≡ [] → claims_in new_claims ≡ claims_in before ++ own_claims d → claims_in new_claims ≡ claims_of (d ∷ [])
unfolding claims_in
claims_made before new_claims d none e = e ∙ ap (λ ps. claims_in ps ++ own_claims d) none ∙ sym (claims_of_one d)

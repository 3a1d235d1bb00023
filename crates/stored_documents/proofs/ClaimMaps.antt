-- Claims in a map, where one is written.
use Rattle.std.proofs.Common.{◌≡◌, ℕ, ◌+◌, ◌<◌, ◌++◌, ◌⊎◌, List, [], ◌∷◌, take, drop, map, length, get_or, Contains, string_bytes, subst, inl, inr, Bool, true, false, cond, Option, Some, None, is_some, option_map, sym, refl, ap, ◌∙◌, true≢false}
use Rattle.std.proofs.lemmas.List.{map-append, take-append-drop}
use Rattle.std.proofs.lemmas.List.Elements.{Contains-append_left, Contains-append_right}
use Rattle.std.specs.BTreeMap.{BTreeMap, get_by_text}
use Rattle.std.specs.Cmp.Lexicographic.{bytes_decides}
use Rattle.std.specs.Global.{Global}
use Rattle.std.specs.declared.rc.Rc.{Rc}
use Rattle.std.specs.declared.string.String.{String}
use Rattle.definitions.specs.Values.{Text, same_text}
use Rattle.definition_laws.proofs.Membership.{is_first}
use Rattle.lemmas.proofs.Lists.{map-take_more}
use Rattle.stored_documents.specs.Claims.{claim_of, claimed_uris, ClaimsOnly}
use Rattle.stored_documents.specs.StoredDocuments.{stored_view}
use Rattle.stored_documents.specs.declared.stored.Stored.{Stored}

abbrev pub Writes : BTreeMap (String Global) (Rc Stored Global) → BTreeMap (String Global) (Rc Stored Global) → Text → Rc Stored Global → Type 0
Writes claims now key s = (u : Text) → get_by_text now u ≡ cond (same_text key u) (Some s) (get_by_text claims u)

pub same_claims : (claims now : BTreeMap (String Global) (Rc Stored Global)) → now.entries ≡ claims.entries → (u : Text) → get_by_text now u ≡ get_by_text claims u
same_claims claims now e u = rw e refl

pub claims_stay : (claims now : BTreeMap (String Global) (Rc Stored Global)) → now.entries ≡ claims.entries → (u claim : Text) → claim_of claims u ≡ Some claim → claim_of now u ≡ Some claim
unfolding claim_of
claims_stay claims now e u claim h = ap (option_map (λ (s : Rc Stored Global). (stored_view s.value).canonical)) (same_claims claims now e u) ∙ h

pub kept_where_none : (claims now : BTreeMap (String Global) (Rc Stored Global)) (key : Text) (s : Rc Stored Global) → Writes claims now key s → is_some (get_by_text claims key) ≡ false
    → (u claim : Text) → claim_of claims u ≡ Some claim → claim_of now u ≡ Some claim
unfolding claim_of
kept_where_none claims now key s writes none u claim h = ap (option_map (λ (x : Rc Stored Global). (stored_view x.value).canonical)) (writes u) ∙ at (same_text key u) refl
  where
    some_there : (o : Option (Rc Stored Global)) → option_map (λ (x : Rc Stored Global). (stored_view x.value).canonical) o ≡ Some claim → is_some o ≡ true
    some_there (Some x) e = refl
    some_there None e = cc

    at : (b : Bool) → same_text key u ≡ b
        → option_map (λ (x : Rc Stored Global). (stored_view x.value).canonical) (cond b (Some s) (get_by_text claims u)) ≡ Some claim
    at true e = absurd (true≢false (sym (some_there (get_by_text claims u) h) ∙ ap (λ t. is_some (get_by_text claims t)) (sym ((bytes_decides key u).0 e)) ∙ none))
    at false e = h

pub claimed_now : (claims now : BTreeMap (String Global) (Rc Stored Global)) (key : Text) (s : Rc Stored Global) → Writes claims now key s → is_some (claim_of now key) ≡ true
unfolding claim_of
claimed_now claims now key s writes =
    ap (λ o. is_some (option_map (λ (x : Rc Stored Global). (stored_view x.value).canonical) o))
    (writes key ∙ ap (λ b. cond b (Some s) (get_by_text claims key)) ((bytes_decides key key).1 refl))

pub claimed_before : (claims : BTreeMap (String Global) (Rc Stored Global)) (key : Text) → is_some (get_by_text claims key) ≡ true → is_some (claim_of claims key) ≡ true
unfolding claim_of
claimed_before claims key e = at (get_by_text claims key) e
  where
    at : (o : Option (Rc Stored Global)) → is_some o ≡ true → is_some (option_map (λ (x : Rc Stored Global). (stored_view x.value).canonical) o) ≡ true
    at (Some x) h = refl
    at None h = h

pub written_there : (claims now : BTreeMap (String Global) (Rc Stored Global)) (key : Text) (s : Rc Stored Global) → Writes claims now key s → is_some (get_by_text claims key) ≡ true
    → (u : Text) → claim_of now u ≡ option_map (λ claim. cond (same_text key u) (stored_view s.value).canonical claim) (claim_of claims u)
unfolding claim_of
written_there claims now key s writes there u =
    ap (option_map (λ (x : Rc Stored Global). (stored_view x.value).canonical)) (writes u) ∙ at (same_text key u) refl (get_by_text claims u) refl
  where
    at : (b : Bool) → same_text key u ≡ b → (o : Option (Rc Stored Global)) → get_by_text claims u ≡ o
        → option_map (λ (x : Rc Stored Global). (stored_view x.value).canonical) (cond b (Some s) o)
        ≡ option_map (λ claim. cond b (stored_view s.value).canonical claim) (option_map (λ (x : Rc Stored Global). (stored_view x.value).canonical) o)
    at true e None f = absurd (true≢false (sym there ∙ ap (λ t. is_some (get_by_text claims t)) ((bytes_decides key u).0 e) ∙ ap is_some f))
    at true e (Some x) f = refl
    at false e None f = refl
    at false e (Some x) f = refl

pub unwritten_there : (claims : BTreeMap (String Global) (Rc Stored Global)) (key : Text) (s : Rc Stored Global) → is_some (get_by_text claims key) ≡ false
    → (u : Text) → claim_of claims u ≡ option_map (λ claim. cond (same_text key u) (stored_view s.value).canonical claim) (claim_of claims u)
unfolding claim_of
unwritten_there claims key s none u = at (same_text key u) refl (get_by_text claims u) refl
  where
    at : (b : Bool) → same_text key u ≡ b → (o : Option (Rc Stored Global)) → get_by_text claims u ≡ o
        → option_map (λ (x : Rc Stored Global). (stored_view x.value).canonical) o
        ≡ option_map (λ claim. cond b (stored_view s.value).canonical claim) (option_map (λ (x : Rc Stored Global). (stored_view x.value).canonical) o)
    at b e None f = refl
    at true e (Some x) f = absurd (true≢false (sym (ap is_some f) ∙ ap (λ t. is_some (get_by_text claims t)) (sym ((bytes_decides key u).0 e)) ∙ none))
    at false e (Some x) f = refl

-- ---- what is claimed, and no more
pub only_same : (claims now : BTreeMap (String Global) (Rc Stored Global)) (us : List Text) → now.entries ≡ claims.entries → ClaimsOnly claims us now
unfolding ClaimsOnly claim_of
only_same claims now us e u h = inl (ap (λ o. is_some (option_map (λ (x : Rc Stored Global). (stored_view x.value).canonical) o)) (sym (same_claims claims now e u)) ∙ h)

pub only_written : (claims now : BTreeMap (String Global) (Rc Stored Global)) (key uri : Text) (s : Rc Stored Global) → key ≡ uri → Writes claims now key s → ClaimsOnly claims (uri ∷ []) now
unfolding ClaimsOnly claim_of
only_written claims now key uri s same writes u h = at (same_text key u) refl
  where
    shown : Option (Rc Stored Global) → Option Text
    shown o = option_map (λ (x : Rc Stored Global). (stored_view x.value).canonical) o

    at : (b : Bool) → same_text key u ≡ b → (is_some (shown (get_by_text claims u)) ≡ true) ⊎ Contains (uri ∷ []) u
    at true e = inr (subst (Contains (uri ∷ [])) (sym same ∙ (bytes_decides key u).0 e) (is_first uri []))
    at false e = inl (sym (ap (λ o. is_some (shown o)) (writes u ∙ ap (λ b. cond b (Some s) (get_by_text claims u)) e)) ∙ h)

pub only_made : (claims now : BTreeMap (String Global) (Rc Stored Global)) (f : Text → Text → Text) (us : List Text) → ((u : Text) → claim_of now u ≡ option_map (f u) (claim_of claims u)) → (before : BTreeMap (String Global) (Rc Stored Global))
    → ClaimsOnly before us claims → ClaimsOnly before us now
unfolding ClaimsOnly
only_made claims now f us new_claims before only u h = only u (was (claim_of claims u) (sym (ap is_some (new_claims u)) ∙ h))
  where
    was : (o : Option Text) → is_some (option_map (f u) o) ≡ true → is_some o ≡ true
    was None e = e
    was (Some x) e = refl

pub only_next : (a b c : BTreeMap (String Global) (Rc Stored Global)) (ps : List (String Global × Rc Stored Global)) (i : ℕ) (p : String Global × Rc Stored Global) (uri : Text) → i < length ps → p ≡ get_or ps i p
    → uri ≡ string_bytes p.0 → ClaimsOnly a (claimed_uris (take i ps)) b → ClaimsOnly b (uri ∷ []) c → ClaimsOnly a (claimed_uris (take (i + 1) ps)) c
unfolding ClaimsOnly claimed_uris
only_next a b c ps i p uri l is same first next u h =
    let key : String Global × Rc Stored Global → Text = λ q. string_bytes q.0 in
    let more : map key (take (i + 1) ps) ≡ map key (take i ps) ++ string_bytes p.0 ∷ [] = map-take_more key ps i p l is in
    elim (next u h) [
      | inl was ↦ elim (first u was) [
        | inl before ↦ inl before
        | inr new_claims ↦ inr (subst (λ us. Contains us u) (sym more) (Contains-append_left (map key (take i ps)) (string_bytes p.0 ∷ []) u new_claims))
      ]
      | inr own ↦ inr (subst (λ us. Contains us u) (sym more) (Contains-append_right (map key (take i ps)) (string_bytes p.0 ∷ []) u (subst (λ t. Contains (t ∷ []) u) same own)))
    ]

pub only_part : (a b : BTreeMap (String Global) (Rc Stored Global)) (ps : List (String Global × Rc Stored Global)) (i : ℕ) → ClaimsOnly a (claimed_uris (take i ps)) b → ClaimsOnly a (claimed_uris ps) b
unfolding ClaimsOnly claimed_uris
only_part a b ps i only u h =
    let key : String Global × Rc Stored Global → Text = λ q. string_bytes q.0 in
    elim (only u h) [
      | inl was ↦ inl was
      | inr new_claims ↦ inr (subst (λ us. Contains us u) (sym (map-append key (take i ps) (drop i ps)) ∙ ap (map key) (take-append-drop i ps))
          (Contains-append_left (map key (take i ps)) (map key (drop i ps)) u new_claims))
    ]

-- Puts and deletes that are answered.
use Rattle.std.proofs.Common.{◌≡◌, ◌<◌, Bool, true, false, not, cond, List, [], ◌∷◌, ◌++◌, Option, Some, None, Ok, Err, length, is_some, is_none, IsTrue, Contains, true≢false, option_map, refl, sym, ap, ◌∙◌, inl, inr, subst, Result}
use Rattle.std.proofs.lemmas.Bool.{and_from}
use borrow.Author.Tests.{lt-ltb}
use Rattle.definitions.specs.Documents.{document_of, documents_with, others_of, taken_uri}
use Rattle.definitions.specs.Faults.{Fault, bad_pattern, library_owned, not_found, no_room, taken}
use Rattle.definitions.specs.Lists.{first, option_list, when}
use Rattle.definitions.specs.Patterns.{regular_search}
use Rattle.definitions.specs.Registries.{Registry, Reply, put, delete, put_into, put_refusal, deleted_from, deleted, stored, refused, for_base, for_value, body_value, is_in_library, documents_seen, quota_faults, decision}
use Rattle.definitions.specs.Resolution.{base_form}
use Rattle.definitions.specs.Runs.{IsAnswer}
use Rattle.definitions.specs.Scanning.{scan_fault, scan_faults}
use Rattle.definitions.specs.Schemas.{Document, document_from}
use Rattle.definitions.specs.Searches.{is_regular, has_patterns, builds, patterns}
use Rattle.definitions.specs.Steps.{step}
use Rattle.definitions.specs.Values.{Text, Value, same_text}
use Rattle.definition_laws.proofs.AcceptedDocuments.{first_none}
use Rattle.definition_laws.proofs.Replacing.{all_kept}
use Rattle.definition_laws.proofs.Membership.{found_some}
use Rattle.shared_cache.specs.Refusals.{Refuses}
use Rattle.tenant_documents.specs.Puts.{IsSent, IsRefused, IsPut, IsDeleted, put_under, IsPutUnder, IsUnder, RefusesUnder}

-- ---- a value that is put under a base
under : (g : Registry) (form : Result Text Fault) (base : Text) (v : Value) → form ≡ Ok base → put_under g form v ≡ put_into regular_search g (document_from base v)
under g form base v e = ap (λ b. for_base g b (λ t. put_into regular_search g (document_from t v))) e

pub no_room_under : (form : Result Text Fault) (v : Value) → RefusesUnder form v no_room
no_room_under form v g = inr (inl refl, refl)

pub bad_base_under : (form : Result Text Fault) (v : Value) (f : Fault) → form ≡ Err f → RefusesUnder form v f
bad_base_under form v f e g =
    let is : put_under g form v ≡ (refused f, g) = ap (λ b. for_base g b (λ t. put_into regular_search g (document_from t v))) e in
    inl (ap (λ p. p.0) (sym is), ap (λ p. p.1) (sym is))

-- ---- what a scan refuses, and a pattern that isn't built
-- the first of several, with others behind
first_of_more : (xs ys : List Fault) (f : Fault) → first xs ≡ Some f → first (xs ++ ys) ≡ Some f
first_of_more [] ys f e = cc
first_of_more (x ∷ xs) ys f e = e

first_behind : (xs ys : List Fault) (o : Option Fault) → first xs ≡ None → first ys ≡ o → first (xs ++ ys) ≡ o
first_behind xs ys o e h = ap (λ zs. first (zs ++ ys)) (first_none xs e) ∙ h

abbrev refusal_of : Registry → Document → Option Fault
refusal_of g d = put_refusal regular_search g d (documents_with d g.documents)

refused_into : (g : Registry) (d : Document) (f : Fault) → refusal_of g d ≡ Some f → put_into regular_search g d ≡ (refused f, g)
refused_into g d f e =
    ap (λ o. decision o (stored d.canonical (is_some (document_of g.documents d.canonical))) (record g { documents = documents_with d g.documents }) g) e

granted_into : (g : Registry) (d : Document) → refusal_of g d ≡ None
    → put_into regular_search g d ≡ (stored d.canonical (is_some (document_of g.documents d.canonical)), record g { documents = documents_with d g.documents })
granted_into g d e =
    ap (λ o. decision o (stored d.canonical (is_some (document_of g.documents d.canonical))) (record g { documents = documents_with d g.documents }) g) e

not_built : (form : Result Text Fault) (base : Text) (v : Value) (b : Bool) → form ≡ Ok base → scan_fault base v ≡ None → has_patterns v ≡ true
    → is_regular regular_search v ≡ b → RefusesUnder form v bad_pattern
not_built form base v true e fine some regular g = inr (inr (refl, builds_them), refl)
  where
    builds_them : IsTrue (builds regular_search form (Ok v))
    builds_them = rw e (and_from (is_none (scan_fault base v)) _ (ap is_none fine) (and_from (has_patterns v) (is_regular regular_search v) some regular))
not_built form base v false e fine some irregular g =
    let d = document_from base v in
    let is : put_under g form v ≡ (refused bad_pattern, g) =
    under g form base v e
    ∙ refused_into g d bad_pattern (first_behind (scan_faults base v) _ (Some bad_pattern) fine
    (first_of_more (when (not (is_regular regular_search v)) bad_pattern) _ bad_pattern (ap (λ b. first (when (not b) bad_pattern)) irregular))) in
    inl (ap (λ p. p.0) (sym is), ap (λ p. p.1) (sym is))

pub not_compiled_under : (form : Result Text Fault) (base : Text) (v : Value) (f : Fault) → form ≡ Ok base → Refuses base v f → RefusesUnder form v f
not_compiled_under form base v f e why = elim why [
  | inl faulty ↦ λ g.
      let is : put_under g form v ≡ (refused f, g) =
      under g form base v e ∙ refused_into g (document_from base v) f (first_of_more (scan_faults base v) _ f faulty) in
      inl (ap (λ p. p.0) (sym is), ap (λ p. p.1) (sym is))
  | inr pattern ↦ subst (RefusesUnder form v) (sym pattern.0)
      (not_built form base v (is_regular regular_search v) e pattern.1 (some_patterns v pattern.2) refl)
]
  where
    some_patterns : (w : Value) → 0 < length (patterns w) → has_patterns w ≡ true
    some_patterns w more = lt-ltb 0 (length (patterns w)) more

pub put_under_answer : (g h : Registry) (form : Result Text Fault) (v : Value) (d : Document) (r : Reply) → d ≡ document_from d.base d.value → IsUnder form v d → IsPut g d r h
    → IsPutUnder g form v r h
put_under_answer g h form v d r made is_under is = elim is [
  | inl granted ↦
      let same : put_under g form v ≡ put_into regular_search g d =
      under g form d.base v is_under.base ∙ ap (λ w. put_into regular_search g (document_from d.base w)) is_under.value ∙ ap (put_into regular_search g) (sym made) in
      inl (granted.0 ∙ ap (λ p. p.0) (sym same), granted.1 ∙ ap (λ p. p.1) (sym same))
  | inr room ↦ inr (inl room.0, room.1)
]

-- ---- a body with this value is put
put_step : (g : Registry) (uri body : Text) (v : Value) → body_value body ≡ Ok v → step regular_search g (put uri body) ≡ put_under g (base_form uri) v
put_step g uri body v h = ap (λ r. for_base g (base_form uri) (λ t. for_value g r (λ w. put_into regular_search g (document_from t w)))) h

of_body : (g h : Registry) (uri body : Text) (v : Value) (r : Reply) → body_value body ≡ Ok v → IsPutUnder g (base_form uri) v r h → IsAnswer regular_search g (put uri body) r h
of_body g h uri body v r e (inl s) =
    let same = put_step g uri body v e in
    inl (s.0 ∙ ap (λ p. p.0) (sym same), s.1 ∙ ap (λ p. p.1) (sym same))
of_body g h uri body v r e (inr (inl room, same)) = inr (inl room, same)
of_body g h uri body v r e (inr (inr pattern, same)) =
    inr (inr (inl (pattern.0, subst (λ b. IsTrue (builds regular_search (base_form uri) b)) (sym e) pattern.1)), same)

pub for_room : (uri body : Text) → IsRefused uri body no_room
for_room uri body g = inr (inl refl, refl)

pub bad_base : (uri body : Text) (f : Fault) → base_form uri ≡ Err f → IsRefused uri body f
bad_base uri body f e g =
    let is : step regular_search g (put uri body) ≡ (refused f, g) = ap (λ b. for_base g b (λ t. for_value g (body_value body) (λ v. put_into regular_search g (document_from t v)))) e in
    inl (ap (λ p. p.0) (sym is), ap (λ p. p.1) (sym is))

pub bad_body : (uri body base : Text) (f : Fault) → base_form uri ≡ Ok base → body_value body ≡ Err f → IsRefused uri body f
bad_body uri body base f e h g =
    let is : step regular_search g (put uri body) ≡ (refused f, g) =
    ap (λ b. for_base g b (λ t. for_value g (body_value body) (λ v. put_into regular_search g (document_from t v)))) e
    ∙ ap (λ r. for_value g r (λ w. put_into regular_search g (document_from base w))) h in
    inl (ap (λ p. p.0) (sym is), ap (λ p. p.1) (sym is))

pub not_compiled : (uri body base : Text) (v : Value) (f : Fault) → base_form uri ≡ Ok base → body_value body ≡ Ok v → Refuses base v f → IsRefused uri body f
not_compiled uri body base v f e h why g = of_body g g uri body v (refused f) h (not_compiled_under (base_form uri) base v f e why g)

-- ---- a document that was sent
pub put_answer : (g h : Registry) (uri body : Text) (d : Document) (r : Reply) → d ≡ document_from d.base d.value → IsSent uri body d → IsPut g d r h
    → IsAnswer regular_search g (put uri body) r h
put_answer g h uri body d r made sent is =
    of_body g h uri body d.value r sent.value (put_under_answer g h (base_form uri) d.value d r made (record { base = sent.base; value = refl }) is)

pub refused_put : (g : Registry) (d : Document) (f : Fault) → refusal_of g d ≡ Some f → IsPut g d (refused f) g
refused_put g d f e = let is = refused_into g d f e in inl (ap (λ p. p.0) (sym is), ap (λ p. p.1) (sym is))

pub granted_put : (g : Registry) (d : Document) → refusal_of g d ≡ None
    → IsPut g d (stored d.canonical (is_some (document_of g.documents d.canonical))) (record g { documents = documents_with d g.documents })
granted_put g d e = let is = granted_into g d e in inl (ap (λ p. p.0) (sym is), ap (λ p. p.1) (sym is))

pub no_room_to_put : (g : Registry) (d : Document) → IsPut g d (refused no_room) g
no_room_to_put g d = inr (refl, refl)

-- ---- what is judged of a document without a fault
-- that no fault was found in, and none in its patterns
pub record IsFaultless (d : Document) : Type 0 where
  pub scanned : scan_fault d.base d.value ≡ None
  pub regular : is_regular regular_search d.value ≡ true

judged_by : (faults : List Fault) (regular owned : Bool) (uri : Option Text) (quota : List Fault) → first faults ≡ None → regular ≡ true
    → first (faults ++ (when (not regular) bad_pattern ++ (when owned library_owned ++ (option_list (option_map taken uri) ++ quota))))
    ≡ first (when owned library_owned ++ (option_list (option_map taken uri) ++ quota))
judged_by faults regular owned uri quota e h = rw (first_none faults e, h) refl

judged : (g : Registry) (d : Document) → IsFaultless d
    → refusal_of g d
    ≡ first (when (is_in_library g d.canonical) library_owned ++ (option_list (option_map taken (taken_uri (documents_seen g) d)) ++ quota_faults g (documents_with d g.documents)))
judged g d fine =
    judged_by (scan_faults d.base d.value) (is_regular regular_search d.value) (is_in_library g d.canonical) (taken_uri (documents_seen g) d)
    (quota_faults g (documents_with d g.documents)) fine.scanned fine.regular

pub refused_as_owned : (g : Registry) (d : Document) → IsFaultless d → is_in_library g d.canonical ≡ true → refusal_of g d ≡ Some library_owned
refused_as_owned g d fine owned = judged g d fine ∙ ap (λ b. first (when b library_owned ++ (option_list (option_map taken (taken_uri (documents_seen g) d)) ++ quota_faults g (documents_with d g.documents)))) owned

after_library : (g : Registry) (d : Document) → IsFaultless d → is_in_library g d.canonical ≡ false
    → refusal_of g d ≡ first (option_list (option_map taken (taken_uri (documents_seen g) d)) ++ quota_faults g (documents_with d g.documents))
after_library g d fine unowned =
    judged g d fine ∙ ap (λ b. first (when b library_owned ++ (option_list (option_map taken (taken_uri (documents_seen g) d)) ++ quota_faults g (documents_with d g.documents)))) unowned

pub refused_as_taken : (g : Registry) (d : Document) (uri : Text) → IsFaultless d → is_in_library g d.canonical ≡ false → taken_uri (documents_seen g) d ≡ Some uri
    → refusal_of g d ≡ Some (taken uri)
refused_as_taken g d uri fine unowned e =
    after_library g d fine unowned ∙ ap (λ o. first (option_list (option_map taken o) ++ quota_faults g (documents_with d g.documents))) e

pub judged_by_quotas : (g : Registry) (d : Document) → IsFaultless d → is_in_library g d.canonical ≡ false → taken_uri (documents_seen g) d ≡ None
    → refusal_of g d ≡ first (quota_faults g (documents_with d g.documents))
judged_by_quotas g d fine unowned e =
    after_library g d fine unowned ∙ ap (λ o. first (option_list (option_map taken o) ++ quota_faults g (documents_with d g.documents))) e

-- ---- deletes
pub delete_answer : (g h : Registry) (uri base : Text) (r : Reply) → base_form uri ≡ Ok base → IsDeleted g base r h → IsAnswer regular_search g (delete uri) r h
delete_answer g h uri base r e is =
    let same : step regular_search g (delete uri) ≡ deleted_from g base = ap (λ b. for_base g b (deleted_from g)) e in
    elim is [
      | inl granted ↦ inl (granted.0 ∙ ap (λ p. p.0) (sym same), granted.1 ∙ ap (λ p. p.1) (sym same))
      | inr room ↦ inr (inl room.0, room.1)
    ]

pub bad_base_to_delete : (g : Registry) (uri : Text) (f : Fault) → base_form uri ≡ Err f → IsAnswer regular_search g (delete uri) (refused f) g
bad_base_to_delete g uri f e =
    let is : step regular_search g (delete uri) ≡ (refused f, g) = ap (λ b. for_base g b (deleted_from g)) e in
    inl (ap (λ p. p.0) (sym is), ap (λ p. p.1) (sym is))

pub no_room_to_delete : (g : Registry) (uri : Text) → IsAnswer regular_search g (delete uri) (refused no_room) g
no_room_to_delete g uri = inr (inl refl, refl)

abbrev either : Bool → Reply × Registry → Reply × Registry → Reply × Registry
either b x y = cond b x y

abbrev deleted_by : Registry → Text → Bool → Bool → Reply × Registry
deleted_by g base owned there =
    either owned (refused library_owned, g) (either there (deleted base, record g { documents = others_of base g.documents }) (refused not_found, g))

pub owned_is_not_deleted : (g : Registry) (base : Text) → is_in_library g base ≡ true → IsDeleted g base (refused library_owned) g
owned_is_not_deleted g base e =
    let is : deleted_from g base ≡ (refused library_owned, g) = ap (λ b. deleted_by g base b (is_some (document_of g.documents base))) e in
    inl (ap (λ p. p.0) (sym is), ap (λ p. p.1) (sym is))

deleted_when : (g : Registry) (base : Text) (owned there : Bool) → is_in_library g base ≡ owned → is_some (document_of g.documents base) ≡ there
    → deleted_from g base ≡ deleted_by g base owned there
deleted_when g base owned there e h = rw (e, h) refl

pub is_deleted : (g : Registry) (base : Text) → is_in_library g base ≡ false → is_some (document_of g.documents base) ≡ true
    → IsDeleted g base (deleted base) (record g { documents = others_of base g.documents })
is_deleted g base e h =
    let is = deleted_when g base false true e h in
    inl (ap (λ p. p.0) (sym is), ap (λ p. p.1) (sym is))

-- where none has the URI all are others
all_others : (ds : List Document) (base : Text) → is_some (document_of ds base) ≡ false → others_of base ds ≡ ds
all_others ds base none = all_kept (λ d. not (same_text base d.canonical)) ds (λ d c. other d (same_text base d.canonical) refl c)
  where
    other : (d : Document) (b : Bool) → same_text base d.canonical ≡ b → Contains ds d → not b ≡ true
    other d true e c = absurd (true≢false (sym (ap is_some (found_some (λ x. same_text base x.canonical) d ds c e).1) ∙ none))
    other d false e c = refl

pub is_not_found : (g : Registry) (base : Text) → is_in_library g base ≡ false → is_some (document_of g.documents base) ≡ false
    → IsDeleted g base (refused not_found) (record g { documents = others_of base g.documents })
is_not_found g base e h =
    let is = deleted_when g base false false e h in
    inl (ap (λ p. p.0) (sym is), ap (λ ds. record g { documents = ds }) (all_others g.documents base h) ∙ ap (λ p. p.1) (sym is))

-- ---- with the documents as they are after a request
pub granted_after : (g : Registry) (d : Document) (uri : Text) (replaced : Bool) (ds : List Document) → put_refusal regular_search g d (documents_with d g.documents) ≡ None
    → uri ≡ d.canonical → replaced ≡ is_some (document_of g.documents d.canonical) → ds ≡ documents_with d g.documents
    → IsPut g d (stored uri replaced) (record g { documents = ds })
granted_after g d uri replaced ds none e f h =
    subst (λ u. IsPut g d (stored u replaced) (record g { documents = ds })) (sym e)
    (subst (λ b. IsPut g d (stored d.canonical b) (record g { documents = ds })) (sym f)
    (subst (λ es. IsPut g d (stored d.canonical (is_some (document_of g.documents d.canonical))) (record g { documents = es })) (sym h) (granted_put g d none)))

pub no_room_after : (g : Registry) (d : Document) (ds : List Document) → ds ≡ g.documents → IsPut g d (refused no_room) (record g { documents = ds })
no_room_after g d ds e = subst (λ es. IsPut g d (refused no_room) (record g { documents = es })) (sym e) (no_room_to_put g d)

pub deleted_after : (g : Registry) (base : Text) (ds : List Document) → is_in_library g base ≡ false → is_some (document_of g.documents base) ≡ true
    → ds ≡ others_of base g.documents → IsDeleted g base (deleted base) (record g { documents = ds })
deleted_after g base ds e h is = subst (λ es. IsDeleted g base (deleted base) (record g { documents = es })) (sym is) (is_deleted g base e h)

pub not_found_after : (g : Registry) (base : Text) (ds : List Document) → is_in_library g base ≡ false → is_some (document_of g.documents base) ≡ false
    → ds ≡ others_of base g.documents → IsDeleted g base (refused not_found) (record g { documents = ds })
not_found_after g base ds e h is = subst (λ es. IsDeleted g base (refused not_found) (record g { documents = es })) (sym is) (is_not_found g base e h)

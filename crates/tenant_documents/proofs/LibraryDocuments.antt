-- The documents of a library: what they are refused for together, and that they go into a list one after the other.
use Rattle.std.proofs.Common.{◌≡◌, ◌<◌, ◌+◌, ◌++◌, ℕ, Bool, true, false, cond, List, [], ◌∷◌, map, filter, take, drop, length, get_or, Some, None, Ok, Err, not, option_map, Contains, Equal, append-nil, sym, refl, ap, ap₂, ◌∙◌, subst, inl, inr, true≢false}
use Rattle.std.proofs.lemmas.Bool.{and_from, and_parts, false_from_ne_true, or_parts}
use Rattle.std.proofs.lemmas.List.{map-append, drop_more, take-append-drop}
use Rattle.std.proofs.lemmas.List.Elements.{Contains-append_left, Contains-append_right}
use Rattle.std.specs.Cmp.Lexicographic.{slice_cmp}
use Rattle.std.specs.Global.{Global}
use Rattle.std.specs.List.{list_all, list_any}
use Rattle.std.specs.Ordering.{nat_cmp}
use Rattle.std.specs.declared.rc.Rc.{Rc}
use Rattle.definitions.specs.Batches.{library_with, repeated_uri, repeats, taken_by, unless_shared}
use Rattle.definitions.specs.Documents.{canonicals, documents_with, documents_with_all, is_faultless, resource_uris_of}
use Rattle.definitions.specs.Faults.{same_document, taken}
use Rattle.definitions.specs.Lists.{first, has_repeat, option_list}
use Rattle.definitions.specs.Reach.{holds_resource, least}
use Rattle.definitions.specs.Scanning.{scan_faults}
use Rattle.definitions.specs.Schemas.{Document, schemas_of}
use Rattle.definitions.specs.Values.{Text, same_text}
use Rattle.lemmas.proofs.Texts.{same_text_itself}
use Rattle.lemmas.proofs.Lists.{map-take_more}
use Rattle.definition_laws.proofs.AcceptedBatches.{library_free, unrepeated}
use Rattle.definition_laws.proofs.AcceptedDocuments.{first_none, scanned}
use Rattle.definition_laws.proofs.JoinedDocuments.{first_apart, from_all, in_all}
use Rattle.definition_laws.proofs.Membership.{nothing_in, is_first, first_or_later, in_map}
use Rattle.definition_laws.proofs.PlacedDocuments.{placed_itself, tied}
use Rattle.definition_laws.proofs.Repeats.{cut}
use Rattle.definition_laws.proofs.Resources.{root_opens, same_text-unlike}
use Rattle.linker.specs.SharedDocuments.{shared_documents}
use Rattle.linker.specs.SoundLists.{all_faultless}
use Rattle.linker.specs.Sources.{shares_resource}
use Rattle.linker.specs.Together.{shares_none}
use Rattle.schema_scan.specs.CompiledDocuments.{compiled_view}
use Rattle.schema_scan.specs.declared.compiled.Compiled.{Compiled}
use Rattle.tenant_documents.proofs.ClaimedUris.{AreDistinctEach, TellsHeld, claimed_are_taken}

-- ---- what is placed is there
pub are_placed : (es ds : List Document) → has_repeat same_text (canonicals es) ≡ false → (d : Document) → Contains es d → Contains (documents_with_all es ds) d
are_placed [] ds once d c = absurd (nothing_in d c)
are_placed (e ∷ es) ds once d c =
    let parts = or_parts (list_any (same_text e.canonical) (canonicals es)) (has_repeat same_text (canonicals es)) once in
    elim (first_or_later e d es c) [
      | inl same ↦ subst (Contains (documents_with_all es (documents_with e ds))) same
          (in_all es (documents_with e ds) e (placed_itself e ds) (λ f k. same_text-unlike e.canonical f.canonical (first_apart e es parts.0 f k)))
      | inr later ↦ are_placed es (documents_with e ds) parts.1 d later
    ]

-- ---- faultless documents
pub distinct_each : (ds : List Document) → list_all is_faultless ds ≡ true → AreDistinctEach ds
distinct_each ds fine d c = (scanned d (first_none (scan_faults d.base d.value) (all_faultless ds fine d c))).uris

-- ---- the least resource URI that two have
nothing_passes : (ts : List Text) → filter (λ t. false) ts ≡ []
nothing_passes [] = refl
nothing_passes (t ∷ ts) = nothing_passes ts

tells_none : (ds : List Document) → has_repeat same_text (canonicals ds) ≡ false → TellsHeld (λ u. false) (documents_with_all ds []) ds
tells_none ds once = record {
  inside = are_placed ds [] once;
  outside = λ u e. absurd (true≢false (sym e));
  others = λ e u c h. elim (from_all ds [] e c) [ inl own ↦ inl own | inr none ↦ absurd (nothing_in e none) ];
}

pub taken_together : (ds : List Document) → repeated_uri ds ≡ None → list_all is_faultless ds ≡ true
    → taken_by (documents_with_all ds []) ds ≡ least (repeats (resource_uris_of ds))
taken_together ds once fine =
    claimed_are_taken (λ u. false) (documents_with_all ds []) ds (unrepeated ds once) (distinct_each ds fine) (tells_none ds (unrepeated ds once))
    ∙ ap (λ us. least (repeats (resource_uris_of ds ++ us))) (nothing_passes (resource_uris_of ds))
    ∙ ap (λ us. least (repeats us)) (append-nil (resource_uris_of ds))

-- ---- what they are refused for
pub twice_there : (ds : List Document) (t : Text) → repeated_uri ds ≡ Some t → library_with ds ≡ Err (same_document t)
twice_there ds t e =
    ap (λ o. unless_shared (documents_with_all ds []) (first (option_list (option_map same_document o) ++ option_list (option_map taken (taken_by (documents_with_all ds []) ds))))) e

pub taken_there : (ds : List Document) (t : Text) → repeated_uri ds ≡ None → taken_by (documents_with_all ds []) ds ≡ Some t → library_with ds ≡ Err (taken t)
taken_there ds t once e =
    ap₂ (λ o p. unless_shared (documents_with_all ds []) (first (option_list (option_map same_document o) ++ option_list (option_map taken p)))) once e

pub all_there : (ds : List Document) → repeated_uri ds ≡ None → taken_by (documents_with_all ds []) ds ≡ None → library_with ds ≡ Ok (documents_with_all ds [])
all_there ds once free =
    ap₂ (λ o p. unless_shared (documents_with_all ds []) (first (option_list (option_map same_document o) ++ option_list (option_map taken p)))) once free

-- ---- one after the other
apart_from_earlier : (earlier later : List Document) (d : Document) → repeated_uri (earlier ++ d ∷ later) ≡ None
    → taken_by (documents_with_all (earlier ++ d ∷ later) []) (earlier ++ d ∷ later) ≡ None → shares_resource (documents_with_all earlier []) d ≡ false
apart_from_earlier earlier later d once taken_none =
    let ds = earlier ++ d ∷ later in
    let free = (library_free ds (documents_with_all ds []) (all_there ds once taken_none)).1 in
    let parts = cut same_text (canonicals earlier) (canonicals (d ∷ later))
    (subst (λ ts. has_repeat same_text ts ≡ false) (map-append (λ (x : Document). x.canonical) earlier (d ∷ later)) free.once) in
    shares_none (documents_with_all earlier []) d (λ e c u own.
    let before : Contains earlier e = elim (from_all earlier [] e c) [ inl there ↦ there | inr none ↦ absurd (nothing_in e none) ] in
    let differ : slice_cmp nat_cmp d.canonical e.canonical ≡ Equal → ⊥ =
    λ tie. true≢false (sym (subst (λ t. same_text e.canonical t ≡ true) (sym (tied d.canonical e.canonical tie)) (same_text_itself e.canonical))
    ∙ parts.apart e.canonical d.canonical (in_map (λ (x : Document). x.canonical) e earlier before) (is_first d.canonical (canonicals later))) in
    let apart = free.free d (Contains-append_right earlier (d ∷ later) d (is_first d later)) e
    (are_placed ds [] free.once e (Contains-append_left earlier (d ∷ later) e before)) differ in
    false_from_ne_true (holds_resource u e) (λ held. true≢false (sym (same_text_itself u) ∙ apart u u own (root_opens (schemas_of e.base e.value) u held))))

cut_there : (cs : List (Rc Compiled Global)) (i : ℕ) (c : Rc Compiled Global) → i < length cs → c ≡ get_or cs i c
    → shared_documents cs ≡ shared_documents (take i cs) ++ compiled_view c.value ∷ shared_documents (drop (i + 1) cs)
unfolding shared_documents
cut_there cs i c lt is =
    let view = λ (x : Rc Compiled Global). compiled_view x.value in
    ap (map view) (sym (take-append-drop i cs) ∙ ap (λ xs. take i cs ++ xs) (drop_more cs i c lt ∙ ap (λ x. x ∷ drop (i + 1) cs) (sym is)))
    ∙ map-append view (take i cs) (c ∷ drop (i + 1) cs)

pub free_to_add : (cs : List (Rc Compiled Global)) (i : ℕ) (c : Rc Compiled Global) → i < length cs → c ≡ get_or cs i c
    → repeated_uri (shared_documents cs) ≡ None → taken_by (documents_with_all (shared_documents cs) []) (shared_documents cs) ≡ None
    → shares_resource (documents_with_all (shared_documents (take i cs)) []) (compiled_view c.value) ≡ false
free_to_add cs i c lt is once free =
    let e = cut_there cs i c lt is in
    apart_from_earlier (shared_documents (take i cs)) (shared_documents (drop (i + 1) cs)) (compiled_view c.value)
    (subst (λ ds. repeated_uri ds ≡ None) e once) (subst (λ ds. taken_by (documents_with_all ds []) ds ≡ None) e free)

-- the last is placed last
pub placed_last : (es : List Document) (d : Document) (ds : List Document) → documents_with_all (es ++ d ∷ []) ds ≡ documents_with d (documents_with_all es ds)
placed_last [] d ds = refl
placed_last (e ∷ es) d ds = placed_last es d (documents_with e ds)

-- ---- walks over documents
pub none_shared : shared_documents [] ≡ []
unfolding shared_documents
none_shared = refl

pub shared_more : (cs : List (Rc Compiled Global)) (i : ℕ) (c : Rc Compiled Global) → i < length cs → c ≡ get_or cs i c
    → shared_documents (take (i + 1) cs) ≡ shared_documents (take i cs) ++ compiled_view c.value ∷ []
unfolding shared_documents
shared_more cs i c lt is = map-take_more (λ (x : Rc Compiled Global). compiled_view x.value) cs i c lt is

pub all_more : (p : Document → Bool) (ds : List Document) (d : Document) → list_all p ds ≡ true → p d ≡ true → list_all p (ds ++ d ∷ []) ≡ true
all_more p [] d h e = and_from (p d) true e refl
all_more p (x ∷ ds) d h e =
    let parts = and_parts (p x) (list_all p ds) h in
    and_from (p x) (list_all p (ds ++ d ∷ [])) parts.0 (all_more p ds d parts.1 e)

-- one document more is added
pub added_last : (cs : List (Rc Compiled Global)) (i : ℕ) (c : Rc Compiled Global) (before now : List Document) (d : Document) (added : Bool)
    → i < length cs → c ≡ get_or cs i c
    → repeated_uri (shared_documents cs) ≡ None → taken_by (documents_with_all (shared_documents cs) []) (shared_documents cs) ≡ None
    → d ≡ compiled_view c.value → before ≡ documents_with_all (shared_documents (take i cs)) [] → added ≡ not (shares_resource before d)
    → now ≡ cond added (documents_with d before) before → now ≡ documents_with_all (shared_documents (take (i + 1) cs)) []
added_last cs i c before now d added lt is once free same so_far test e =
    let alone : shares_resource before d ≡ false = ap₂ shares_resource so_far same ∙ free_to_add cs i c lt is once free in
    let is_added : added ≡ true = test ∙ ap not alone in
    e ∙ ap (λ b. cond b (documents_with d before) before) is_added
    ∙ ap₂ documents_with same so_far
    ∙ sym (placed_last (shared_documents (take i cs)) (compiled_view c.value) [])
    ∙ sym (ap (λ ds. documents_with_all ds []) (shared_more cs i c lt is))

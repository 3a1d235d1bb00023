-- Walks over stored documents.
use Rattle.std.proofs.Common.{◌≡◌, ◌<◌, ◌≤◌, ◌+◌, ◌-◌, ◌^◌, ◌++◌, ℕ, Bool, true, false, List, [], ◌∷◌, map, take, drop, length, get_or, refl, sym, ap, subst, ◌∙◌, arith}
use Rattle.std.proofs.lemmas.Bool.{or_from}
use Rattle.std.proofs.lemmas.List.{length-append, length-map, take-append-drop, take-map}
use Rattle.std.proofs.lemmas.List.Sums.{sum_by-append}
use Rattle.std.proofs.lemmas.List.Folds.{list_any-append}
use Rattle.std.specs.Global.{Global}
use Rattle.std.specs.List.{list_any}
use Rattle.std.specs.declared.rc.Rc.{Rc}
use Rattle.definitions.specs.Documents.{bytes_of, canonicals, document_of, resources_of}
use Rattle.definitions.specs.Lists.{has_repeat, option_list}
use Rattle.definitions.specs.Scanning.{scan_faults}
use Rattle.definitions.specs.Schemas.{Document}
use Rattle.definitions.specs.Texts.{text}
use Rattle.definitions.specs.Values.{Text, same_text}
use Rattle.lemmas.proofs.Lists.{flat_map-push, map-take_more}
use Rattle.definition_laws.proofs.AcceptedDocuments.{first_none, scanned}
use Rattle.definition_laws.proofs.Membership.{any_at, in_map}
use Rattle.definition_laws.proofs.Repeats.{cut}
use Rattle.stored_documents.specs.KeptDocuments.{of_each}
use Rattle.stored_documents.specs.SharedStored.{stored_documents}
use Rattle.stored_documents.specs.StoredDocuments.{stored_view}
use Rattle.stored_documents.specs.declared.stored.Stored.{Stored}
use Rattle.tenant_documents.specs.HeldBeside.{replaced_by}
use Rattle.tenant_documents.proofs.ClaimedUris.{AreDistinctEach}

pub none_stored : stored_documents [] ≡ []
unfolding stored_documents
none_stored = refl

pub stored_more : (ss : List (Rc Stored Global)) (i : ℕ) (s : Rc Stored Global) → i < length ss → s ≡ get_or ss i s
    → stored_documents (take (i + 1) ss) ≡ stored_documents (take i ss) ++ stored_view s.value ∷ []
unfolding stored_documents
stored_more ss i s lt is = map-take_more (λ (x : Rc Stored Global). stored_view x.value) ss i s lt is

pub each_distinct : (ss : List (Rc Stored Global)) → AreDistinctEach (stored_documents ss)
each_distinct ss =
    of_each (λ d. has_repeat same_text (resources_of d) ≡ false)
    (λ s. (scanned (stored_view s) (first_none (scan_faults (stored_view s).base (stored_view s).value) s.faultless)).uris) ss

-- ---- of the first ones too no canonical URI stands twice
first_once : (ts : List Text) (i : ℕ) → has_repeat same_text ts ≡ false → has_repeat same_text (take i ts) ≡ false
first_once ts i once = (cut same_text (take i ts) (drop i ts) (ap (has_repeat same_text) (take-append-drop i ts) ∙ once)).before

pub stored_once : (ss : List (Rc Stored Global)) (i : ℕ) → has_repeat same_text (canonicals (stored_documents ss)) ≡ false
    → has_repeat same_text (canonicals (stored_documents (take i ss))) ≡ false
unfolding stored_documents
stored_once ss i once =
    let view = λ (x : Rc Stored Global). stored_view x.value in
    subst (λ ts. has_repeat same_text ts ≡ false) (take-map (λ (d : Document). d.canonical) i (map view ss) ∙ ap canonicals (take-map view i ss))
    (first_once (canonicals (map view ss)) i once)

-- ---- those that they take the place of
gone_more : (ss : List (Rc Stored Global)) (i : ℕ) (s : Rc Stored Global) (ds : List Document) → i < length ss → s ≡ get_or ss i s
    → replaced_by (stored_documents (take (i + 1) ss)) ds
    ≡ replaced_by (stored_documents (take i ss)) ds ++ option_list (document_of ds (stored_view s.value).canonical)
gone_more ss i s ds lt is =
    ap (λ es. replaced_by es ds) (stored_more ss i s lt is)
    ∙ flat_map-push (λ (e : Document). option_list (document_of ds e.canonical)) (stored_documents (take i ss)) (stored_view s.value)

pub number_gone_more : (ss : List (Rc Stored Global)) (i : ℕ) (s : Rc Stored Global) (ds : List Document) → i < length ss → s ≡ get_or ss i s
    → length (replaced_by (stored_documents (take (i + 1) ss)) ds)
    ≡ length (replaced_by (stored_documents (take i ss)) ds) + length (option_list (document_of ds (stored_view s.value).canonical))
number_gone_more ss i s ds lt is =
    ap length (gone_more ss i s ds lt is)
    ∙ length-append (replaced_by (stored_documents (take i ss)) ds) (option_list (document_of ds (stored_view s.value).canonical))

pub bytes_gone_more : (ss : List (Rc Stored Global)) (i : ℕ) (s : Rc Stored Global) (ds : List Document) → i < length ss → s ≡ get_or ss i s
    → bytes_of (replaced_by (stored_documents (take (i + 1) ss)) ds)
    ≡ bytes_of (replaced_by (stored_documents (take i ss)) ds) + bytes_of (option_list (document_of ds (stored_view s.value).canonical))
bytes_gone_more ss i s ds lt is =
    ap bytes_of (gone_more ss i s ds lt is)
    ∙ sum_by-append (λ (x : Document). length (text x.value)) (replaced_by (stored_documents (take i ss)) ds) (option_list (document_of ds (stored_view s.value).canonical))

-- ---- of numbers alone
pub may_go : (now before gone after all : ℕ) → now + before ≡ all → after ≡ before + gone → after ≤ all → gone ≤ now
may_go now before gone after all e f le = omega (arith, e, f, le)

pub gone_on : (now before gone after all : ℕ) → now + before ≡ all → after ≡ before + gone → after ≤ all → (now - gone) + after ≡ all
gone_on now before gone after all e f le = omega (arith, e, f, le)

pub with_added : (now gone all own after : ℕ) → now + gone ≡ all → after ≡ (all - gone) + own → gone ≤ all → own + now ≡ after
with_added now gone all own after e f le = omega (arith, e, f, le)

pub stored_long : (ss : List (Rc Stored Global)) → length (stored_documents ss) ≡ length ss
unfolding stored_documents
stored_long ss = length-map ss (λ (x : Rc Stored Global). stored_view x.value)

pub count_after : (count rest len gone all own after : ℕ) → count ≡ rest + len → rest + gone ≡ all → after ≡ (all - gone) + own → own ≡ len → after ≡ count
count_after count rest len gone all own after e f h k = omega (arith, e, f, h, k)

pub over_all : (rest len gone all own after most quota : ℕ) → (rest + len < 2 ^ 64 → ⊥) → rest + gone ≡ all → after ≡ (all - gone) + own → own ≡ len → quota ≡ most
    → quota < 2 ^ 64 → most < after
over_all rest len gone all own after most quota over f h k e small = omega (arith, over, f, h, k, e, small)

-- ---- a test of documents
pub any_stored : (p : Document → Bool) (ss : List (Rc Stored Global)) (i : ℕ) (s : Rc Stored Global) → i < length ss → s ≡ get_or ss i s
    → p (stored_view s.value) ≡ true → list_any p (stored_documents ss) ≡ true
unfolding stored_documents
any_stored p ss i s lt is e =
    let view = λ (x : Rc Stored Global). stored_view x.value in
    any_at p (stored_view s.value) (map view ss) (in_map view s ss (i, lt, sym is)) e

pub none_more : (p : Document → Bool) (ss : List (Rc Stored Global)) (i : ℕ) (s : Rc Stored Global) → i < length ss → s ≡ get_or ss i s
    → list_any p (stored_documents (take i ss)) ≡ false → p (stored_view s.value) ≡ false → list_any p (stored_documents (take (i + 1) ss)) ≡ false
none_more p ss i s lt is before e =
    let d = stored_view s.value in
    ap (list_any p) (stored_more ss i s lt is)
    ∙ list_any-append p (stored_documents (take i ss)) (d ∷ [])
    ∙ or_from (list_any p (stored_documents (take i ss))) (list_any p (d ∷ [])) before (or_from (p d) false e refl)

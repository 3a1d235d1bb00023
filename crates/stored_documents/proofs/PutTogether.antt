-- Several documents that are put together.
use Rattle.std.proofs.Common.{◌≡◌, ℕ, ◌+◌, ◌-◌, ◌^◌, ◌<◌, ◌≤◌, ◌++◌, Fits, w64, get_or, false, List, [], ◌∷◌, map, flat_map, length, take, None, sym, refl, ap, ◌∙◌, subst, arith}
use Rattle.std.proofs.lemmas.Bool.{or_parts}
use Rattle.std.proofs.lemmas.List.{map-append, take-map}
use Rattle.std.proofs.lemmas.List.Sums.{sum_by-append, sum_by-cons, sum_by-take-le}
use Rattle.std.specs.Global.{Global}
use Rattle.std.specs.List.{list_any}
use Rattle.std.specs.declared.rc.Rc.{Rc}
use Rattle.definitions.specs.Batches.{repeated_uri, taken_by}
use Rattle.definitions.specs.Documents.{bytes_of, canonicals, document_of, documents_with, documents_with_all, taken_uris, Ascend}
use Rattle.definitions.specs.Keeping.{AreKept}
use Rattle.definitions.specs.Lists.{has_repeat, option_list}
use Rattle.definitions.specs.Patterns.{regular_search}
use Rattle.definitions.specs.Reach.{least}
use Rattle.definitions.specs.Schemas.{Document}
use Rattle.definitions.specs.Texts.{text}
use Rattle.definitions.specs.Values.{same_text}
use Rattle.definition_laws.proofs.AcceptedBatches.{flat_none, unrepeated}
use Rattle.definition_laws.proofs.AcceptedDocuments.{free_of_others}
use Rattle.definition_laws.proofs.JoinedDocuments.{ascend_all, ascend_outside, ascend_placed, none_outside, outside, outside_rest}
use Rattle.definition_laws.proofs.KeptDocuments.{IsFine, batch_kept}
use Rattle.definition_laws.proofs.LeastTexts.{no_least}
use Rattle.definition_laws.proofs.QuotaSums.{added}
use Rattle.definition_laws.proofs.Repeats.{cut}
use Rattle.lemmas.proofs.Lists.{map-take_more}
use Rattle.stored_documents.specs.SharedStored.{stored_documents}
use Rattle.stored_documents.specs.StoredDocuments.{stored_view}
use Rattle.stored_documents.specs.declared.stored.Stored.{Stored}
use Rattle.stored_documents.specs.KeptDocuments.{of_each}
use Rattle.stored_documents.proofs.KeptStored.{fine}
use Rattle.stored_documents.proofs.MeasuredDocuments.{bytes_more, is_instead}

-- ---- no repeats, and nothing taken
pub kept_with_all : (ss : List (Rc Stored Global)) (ds : List Document) → AreKept regular_search ds → repeated_uri (stored_documents ss) ≡ None
    → taken_by (documents_with_all (stored_documents ss) ds) (stored_documents ss) ≡ None → AreKept regular_search (documents_with_all (stored_documents ss) ds)
kept_with_all ss ds kept once free =
    let es = stored_documents ss in
    let after = documents_with_all es ds in
    batch_kept regular_search es ds kept (of_each (IsFine regular_search) fine ss)
    (λ e c x k other. free_of_others after e x (ap least (flat_none (taken_uris after) e es (no_least (flat_map (taken_uris after) es) free) c)) k other)
    (unrepeated es once)

-- ---- their bytes
add_up : (all es rest own e part : ℕ) → all ≡ es + part → part ≡ rest + own → e ≡ own + es → all ≡ e + rest
add_up all es rest own e part f g h = omega (arith, f, g, h)

none_first : (n m : ℕ) → m ≡ 0 → n ≡ m + n
none_first n m e = omega (arith, e)

pub bytes_of_all : (es ds : List Document) → Ascend ds → has_repeat same_text (canonicals es) ≡ false → bytes_of (documents_with_all es ds) ≡ bytes_of es + bytes_of (outside es ds)
bytes_of_all [] ds ascend once = none_first (bytes_of ds) (bytes_of []) refl
bytes_of_all (e ∷ es) ds ascend once =
    let apart = or_parts (list_any (same_text e.canonical) (canonicals es)) (has_repeat same_text (canonicals es)) once in
    add_up (bytes_of (documents_with_all es (documents_with e ds))) (bytes_of es) (bytes_of (outside (e ∷ es) ds)) (length (text e.value)) (bytes_of (e ∷ es)) (bytes_of (documents_with e (outside (e ∷ es) ds)))
    (bytes_of_all es (documents_with e ds) (ascend_placed e ds ascend) apart.1 ∙ ap (λ xs. bytes_of es + bytes_of xs) (outside_rest e es ds apart.0 ascend))
    (bytes_more e (outside (e ∷ es) ds) (ascend_outside (e ∷ es) ds ascend) (none_outside e.canonical (outside es ds)))
    (sum_by-cons (λ (x : Document). length (text x.value)) e es)

-- ---- one after the other
pub placed_more : (es : List Document) (e : Document) (ds : List Document) → documents_with_all (es ++ e ∷ []) ds ≡ documents_with e (documents_with_all es ds)
placed_more [] e ds = refl
placed_more (x ∷ es) e ds = placed_more es e (documents_with x ds)

pub stored_pushed : (ss : List (Rc Stored Global)) (s : Rc Stored Global) → stored_documents (ss ++ s ∷ []) ≡ stored_documents ss ++ stored_view s.value ∷ []
unfolding stored_documents
stored_pushed ss s = map-append (λ (x : Rc Stored Global). stored_view x.value) ss (s ∷ [])

stored_joined : (ss ts : List (Rc Stored Global)) → canonicals (stored_documents (ss ++ ts)) ≡ canonicals (stored_documents ss) ++ canonicals (stored_documents ts)
unfolding stored_documents
stored_joined ss ts =
    ap canonicals (map-append (λ (x : Rc Stored Global). stored_view x.value) ss ts)
    ∙ map-append (λ (d : Document). d.canonical) (map (λ (x : Rc Stored Global). stored_view x.value) ss) (map (λ (x : Rc Stored Global). stored_view x.value) ts)

one_longer : (all part last own : ℕ) → all ≡ part + last → last ≡ own + 0 → all ≡ part + own
one_longer all part last own e f = omega (arith, e, f)

bytes_pushed : (ds : List Document) (d : Document) → bytes_of (ds ++ d ∷ []) ≡ bytes_of ds + length (text d.value)
bytes_pushed ds d =
    one_longer (bytes_of (ds ++ d ∷ [])) (bytes_of ds) (bytes_of (d ∷ [])) (length (text d.value))
    (sum_by-append (λ (x : Document). length (text x.value)) ds (d ∷ [])) (sum_by-cons (λ (x : Document). length (text x.value)) d [])

pub stored_bytes_more : (ss : List (Rc Stored Global)) (i : ℕ) (s : Rc Stored Global) → i < length ss → s ≡ get_or ss i s
    → bytes_of (stored_documents (take (i + 1) ss)) ≡ bytes_of (stored_documents (take i ss)) + length (text (stored_view s.value).value)
unfolding stored_documents
stored_bytes_more ss i s l e =
    ap bytes_of (map-take_more (λ (x : Rc Stored Global). stored_view x.value) ss i s l e)
    ∙ bytes_pushed (map (λ (x : Rc Stored Global). stored_view x.value) (take i ss)) (stored_view s.value)

pub stored_bytes_within : (ss : List (Rc Stored Global)) (i : ℕ) → bytes_of (stored_documents (take i ss)) ≤ bytes_of (stored_documents ss)
unfolding stored_documents
stored_bytes_within ss i =
    subst (λ ds. bytes_of ds ≤ bytes_of (map (λ (x : Rc Stored Global). stored_view x.value) ss)) (take-map (λ (x : Rc Stored Global). stored_view x.value) i ss)
    (sum_by-take-le (λ (x : Document). length (text x.value)) (map (λ (x : Rc Stored Global). stored_view x.value) ss) i)

-- as far as some of them are put
pub record ArePlaced (ss : List (Rc Stored Global)) (before now : List Document) (replaced : ℕ) : Type 0 where
  pub placed : now ≡ documents_with_all (stored_documents ss) before
  pub bytes : bytes_of now + replaced ≡ bytes_of before + bytes_of (stored_documents ss)

sums_up : (after one now own replaced before es all size : ℕ) → after + one ≡ now + own → size ≡ one → now + replaced ≡ before + es → all ≡ es + own
    → after + (replaced + size) ≡ before + all
sums_up after one now own replaced before es all size e f g h = omega (arith, e, f, g, h)

pub ascend_now : (ss : List (Rc Stored Global)) (before now : List Document) (replaced : ℕ) → ArePlaced ss before now replaced → Ascend before → Ascend now
ascend_now ss before now replaced so_far ascend = subst Ascend (sym so_far.placed) (ascend_all (stored_documents ss) before ascend)

pub one_more : (ss : List (Rc Stored Global)) (s : Rc Stored Global) (before now after : List Document) (replaced size : ℕ) → Ascend before → ArePlaced ss before now replaced
    → after ≡ documents_with (stored_view s.value) now → size ≡ bytes_of (option_list (document_of now (stored_view s.value).canonical))
    → ArePlaced (ss ++ s ∷ []) before after (replaced + size)
one_more ss s before now after replaced size ascend so_far put is =
    let d = stored_view s.value in
    record {
      placed = put ∙ ap (documents_with d) so_far.placed ∙ sym (ap (λ es. documents_with_all es before) (stored_pushed ss s) ∙ placed_more (stored_documents ss) d before);
      bytes =
          ap (λ es. bytes_of es + (replaced + size)) put
          ∙ sums_up (bytes_of (documents_with d now)) (bytes_of (option_list (document_of now d.canonical))) (bytes_of now) (length (text d.value)) replaced (bytes_of before) (bytes_of (stored_documents ss))
          (bytes_of (stored_documents (ss ++ s ∷ []))) size
          (added (λ (x : Document). length (text x.value)) d now (ascend_now ss before now replaced so_far ascend)) is so_far.bytes
          (ap bytes_of (stored_pushed ss s) ∙ bytes_pushed (stored_documents ss) d);
    }

no_more : (after es out before replaced : ℕ) → after ≡ es + out → after + replaced ≡ before + es → replaced ≤ before
no_more after es out before replaced e f = omega (arith, e, f)

pub replaced_within : (ss ts : List (Rc Stored Global)) (before now : List Document) (replaced : ℕ) → Ascend before → has_repeat same_text (canonicals (stored_documents (ss ++ ts))) ≡ false
    → ArePlaced ss before now replaced → replaced ≤ bytes_of before
replaced_within ss ts before now replaced ascend once so_far =
    let es = stored_documents ss in
    let parts = cut same_text (canonicals es) (canonicals (stored_documents ts)) (ap (has_repeat same_text) (sym (stored_joined ss ts)) ∙ once) in
    no_more (bytes_of now) (bytes_of es) (bytes_of (outside es before)) (bytes_of before) replaced
    (ap bytes_of so_far.placed ∙ bytes_of_all es before ascend parts.before) so_far.bytes

own_within : (after es out : ℕ) → after ≡ es + out → es ≤ after
own_within after es out e = omega (arith, e)

pub own_bytes : (es ds : List Document) → Ascend ds → repeated_uri es ≡ None → bytes_of es ≤ bytes_of (documents_with_all es ds)
own_bytes es ds ascend once = own_within (bytes_of (documents_with_all es ds)) (bytes_of es) (bytes_of (outside es ds)) (bytes_of_all es ds ascend (unrepeated es once))

pub fits_below : (n m : ℕ) → n ≤ m → m < 2 ^ 64 → Fits w64 n
fits_below n m e l = omega (arith, e, l)

pub fits_sum : (n part all : ℕ) → n ≡ part → part ≤ all → all < 2 ^ 64 → Fits w64 n
fits_sum n part all e l most = omega (arith, e, l, most)

pub alone_bytes : (d : Document) → bytes_of (d ∷ []) ≡ length (text d.value)
alone_bytes d = one_longer (bytes_of (d ∷ [])) 0 (bytes_of (d ∷ [])) (length (text d.value)) (none_first (bytes_of (d ∷ [])) 0 refl) (sum_by-cons (λ (x : Document). length (text x.value)) d []) ∙ none_more (length (text d.value))
  where
    none_more : (n : ℕ) → 0 + n ≡ n
    none_more n = omega arith

pub none_placed : (before : List Document) → ArePlaced [] before before 0
unfolding stored_documents
none_placed before = record { placed = refl; bytes = refl }

pub below_fits : (n m k : ℕ) → n ≡ m → m ≤ k → k < 2 ^ 64 → n < 2 ^ 64
below_fits n m k e le l = omega (arith, e, le, l)

le_as : (size n bytes : ℕ) → size ≤ n → bytes ≡ n → size ≤ bytes
le_as size n bytes le e = omega (arith, le, e)

-- ---- the sum that is kept
pub sum_together : (es before old now : List Document) (bytes replaced added : ℕ) → old ≡ before → bytes ≡ bytes_of before → now ≡ documents_with_all es old
    → bytes_of now + replaced ≡ bytes_of old + bytes_of es → replaced ≤ bytes_of old → added ≡ bytes_of es → bytes - replaced + added ≡ bytes_of (documents_with_all es before)
sum_together es before old now bytes replaced added same measured put total within own =
    is_instead (bytes_of (documents_with_all es before)) replaced (bytes_of before) (bytes_of es) replaced added bytes
    (ap (λ xs. bytes_of xs + replaced) (sym (put ∙ ap (documents_with_all es) same)) ∙ total ∙ ap (λ xs. bytes_of xs + bytes_of es) same) refl own measured
    (le_as replaced (bytes_of before) bytes (subst (λ xs. replaced ≤ bytes_of xs) same within) measured)

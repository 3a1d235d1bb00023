-- Documents of files, and why there are none.
use Rattle.std.proofs.Common.{◌≡◌, ◌≢◌, ◌∙◌, ◌+◌, ◌<◌, ℕ, Bool, false, Bor, List, Option, Some, None, Result, Ok, Err, IfOk, ap, sym, subst, String, Global, string_bytes, unwrap_or, inl, inr, ⊎_elim, take, length, get_or}
use Rattle.std.specs.BTreeSet.{insert_key}
use Rattle.std.specs.List.{Contains}
use Rattle.std.specs.declared.cmp.Ordering.{Ordering}
use Rattle.std.specs.declared.rc.Rc.{Rc}
use Rattle.std.specs.declared.cmp.Ordering.TheVariants.{Equal}
use Rattle.checks.specs.Judgements.{builds_patterns, is_for_pattern}
use Rattle.definitions.specs.Batches.{batch_entries, library_of}
use Rattle.definitions.specs.Documents.{documents_with}
use Rattle.definitions.specs.Patterns.{regular_search}
use Rattle.definitions.specs.Schemas.{Document}
use Rattle.definitions.specs.Texts.{parsed_value}
use Rattle.definitions.specs.Values.{Text}
use Rattle.faults.specs.View.{fault_view}
use Rattle.faults.specs.declared.Fault.{Fault}
use Rattle.faults.specs.declared.Fault.TheVariants.{NoRoom}
use Rattle.file_checks.specs.FileTexts.{document_beside}
use Rattle.file_forms.specs.Gathered.{FileIsGathered, FilesAreGathered, Gathering, IsAdded, IsAddedAt, IsFileTrouble, IsLibrary, IsLibraryTrouble, IsPathTrouble, LiesAt, PathIsGathered, PathsAreGathered}
use Rattle.file_forms.specs.Refusals.{IsRefusal}
use Rattle.file_forms.specs.Subjects.{Holds, Lists}
use Rattle.file_forms.specs.Told.{ToldUnless}
use Rattle.file_forms.specs.declared.trouble.Trouble.{Trouble}
use Rattle.schema_scan.specs.CompiledDocuments.{compiled_view}
use Rattle.schema_scan.specs.declared.compiled.Compiled.{Compiled}
use Rattle.tenant_documents.specs.EntryRefusals.{IsRefusedLibrary}
use Rattle.file_forms.proofs.Going.{names, names_more, texts, texts_more}
use Rattle.file_forms.proofs.Places.{kept, placed, put}
use Rattle.file_forms.proofs.Turns.{one_more_turn}

-- the text of a file is refused
pub refused_file : (holds : Holds) (folder path : Text) (uri : Option Text) (place text given shown : Text) (documents : List Document) (fault : Fault) (trouble : Trouble) → LiesAt folder path place
    → holds path text → given ≡ unwrap_or uri place → shown ≡ text
    → (fault ≢ NoRoom → is_for_pattern (fault_view fault) (builds_patterns given (parsed_value shown)) ≡ false → document_beside documents given (parsed_value shown) ≡ Err (fault_view fault))
    → IsRefusal path None fault trouble → IsFileTrouble holds folder path uri trouble
refused_file holds folder path uri place text given shown documents fault trouble lies held given_is shown_is why is =
    let so : fault ≢ NoRoom → is_for_pattern (fault_view fault) (builds_patterns (unwrap_or uri place) (parsed_value text)) ≡ false
    → document_beside documents (unwrap_or uri place) (parsed_value text) ≡ Err (fault_view fault) =
    subst (λ g. fault ≢ NoRoom → is_for_pattern (fault_view fault) (builds_patterns g (parsed_value text)) ≡ false → document_beside documents g (parsed_value text) ≡ Err (fault_view fault)) given_is
    (subst (λ t. fault ≢ NoRoom → is_for_pattern (fault_view fault) (builds_patterns given (parsed_value t)) ≡ false → document_beside documents given (parsed_value t) ≡ Err (fault_view fault)) shown_is why) in
    inr (inr (record { fault = fault; is = is; why = λ room. record { place = place; lies = lies; text = text; held = held; documents = documents; refused = so room } }))

-- its document is added
pub is_added : (holds : Holds) (folder path : Text) (uri : Option Text) (key : String Global) (shown given text read : Text) (document : Document) (before after : List Document)
    (cmp : String Global → String Global → Ordering) (olds news : List (String Global)) → LiesAt folder path (string_bytes key) → holds path text → given ≡ unwrap_or uri shown → shown ≡ string_bytes key
    → read ≡ text → document_beside before given (parsed_value read) ≡ Ok document → after ≡ documents_with document before → news ≡ insert_key cmp olds key
    → ((a b : String Global) → cmp a b ≡ Equal → string_bytes b ≡ string_bytes a)
    → IsAddedAt holds folder path (string_bytes key) uri document (record { places = texts olds; documents = before }) (record { places = texts news; documents = after })
is_added holds folder path uri key shown given text read document before after cmp olds news lies held given_is shown_is read_is accepted added inserted exact = record {
  lies = lies;
  text = text;
  held = held;
  accepted = ap (λ t. document_beside before (unwrap_or uri (string_bytes key)) (parsed_value t)) (sym read_is)
      ∙ ap (λ u. document_beside before u (parsed_value read)) (sym (given_is ∙ ap (unwrap_or uri) shown_is)) ∙ accepted;
  documents = added;
  places = λ q. (
    λ h. placed cmp olds key q (subst (λ ks. Contains (texts ks) q) inserted h),
    λ h. subst (λ ks. Contains (texts ks) q) (sym inserted)
        (⊎_elim (λ there. kept cmp olds key q there) (λ new. subst (Contains (texts (insert_key cmp olds key))) (sym new) (put cmp exact olds key)) h),
  );
}

-- at some place
pub somewhere : (holds : Holds) (folder path place : Text) (uri : Option Text) (result : Result (Rc Compiled Global) Trouble) (before after : Gathering)
    → IfOk result (λ root. IsAddedAt holds folder path place uri (compiled_view root.value) before after)
    → IfOk result (λ root. IsAdded holds folder path uri (compiled_view root.value) before after)
somewhere holds folder path place uri (Ok root) before after h = (place, h)
somewhere holds folder path place uri (Err trouble) before after h = tt

-- ---- a library
pub library_read : (holds : Holds) (path text read : Text) (documents : List Document) → holds path text → read ≡ text → library_of regular_search read ≡ Ok documents → IsLibrary holds (Some path) documents
library_read holds path text read documents held read_is of = (text, held, ap (library_of regular_search) (sym read_is) ∙ of)

pub refused_batch : (holds : Holds) (path text read : Text) (fault : Fault) (trouble : Trouble) → holds path text → read ≡ text → (fault ≢ NoRoom → IsRefusedLibrary (batch_entries read) (fault_view fault))
    → IsRefusal path None fault trouble → IsLibraryTrouble holds (Some path) trouble
refused_batch holds path text read fault trouble held read_is why is =
    inr (record { fault = fault; is = is; why = λ room. (text, held, subst (λ t. IsRefusedLibrary (batch_entries t) (fault_view fault)) read_is (why room)) })

-- ---- one more, in the same folder
pub told_in : (holds : Holds) (folder other : Text) (b : Bool) (before after : Text) → other ≡ folder → ToldUnless (IsPathTrouble holds other) b before after
    → ToldUnless (IsPathTrouble holds folder) b before after
told_in holds folder other b before after same told = subst (λ f. ToldUnless (IsPathTrouble holds f) b before after) same told

pub file_more : (holds : Holds) (folder other : Text) (paths : List (String Global)) (i : ℕ) (item : String Global) (shown : Text) (first before after : Gathering) → i < length paths
    → item ≡ get_or paths i item → shown ≡ string_bytes item → other ≡ folder → FilesAreGathered holds folder (texts (take i paths)) first before → FileIsGathered holds other shown before after
    → FilesAreGathered holds folder (texts (take (i + 1) paths)) first after
file_more holds folder other paths i item shown first before after within is shown_is same gathered more =
    subst (λ ps. FilesAreGathered holds folder ps first after) (texts_more paths i item shown within is shown_is)
    (one_more_turn (FileIsGathered holds folder) (texts (take i paths)) shown first before after gathered (subst (λ f. FileIsGathered holds f shown before after) same more))

pub path_more : (holds : Holds) (lists : Lists) (folder other : Text) (paths : List (Bor Text)) (i : ℕ) (item : Bor Text) (first before after : Gathering) → i < length paths → other ≡ folder
    → PathsAreGathered holds lists folder (names (take i paths)) first before → PathIsGathered holds lists other (get_or paths i item).now before after
    → PathsAreGathered holds lists folder (names (take (i + 1) paths)) first after
path_more holds lists folder other paths i item first before after within same gathered more =
    subst (λ ps. PathsAreGathered holds lists folder ps first after) (names_more paths i item within)
    (one_more_turn (PathIsGathered holds lists folder) (names (take i paths)) (get_or paths i item).now first before after gathered
    (subst (λ f. PathIsGathered holds lists f (get_or paths i item).now before after) same more))

-- The documents of a batch's entries, one after the other.
use Rattle.std.proofs.Common.{◌≡◌, ◌<◌, ◌+◌, ◌++◌, ◌&&◌, ℕ, zero, suc, List, [], ◌∷◌, Bool, true, false, not, Some, None, Result, Ok, Err, is_ok, is_none, map, take, length, get_or, refl, sym, ap, ◌∙◌, ◌≤◌, subst, arith, inl, inr}
use Rattle.std.proofs.lemmas.Bool.{and_from}
use Rattle.std.proofs.lemmas.Bool.Decides.{nat_tests}
use Rattle.std.proofs.lemmas.List.{take_all}
use Rattle.definitions.specs.Batches.{Entry, accepted_document, document_under, entry_document, entry_documents, with_later, library_by, library_from, library_with}
use Rattle.definitions.specs.Faults.{Fault, bad_pattern}
use Rattle.definitions.specs.Lists.{first, when}
use Rattle.definitions.specs.Patterns.{regular_search}
use Rattle.definitions.specs.Resolution.{base_form}
use Rattle.definitions.specs.Runs.{builds_at}
use Rattle.definitions.specs.Scanning.{scan_fault, scan_faults}
use Rattle.definitions.specs.Schemas.{Document, document_from}
use Rattle.definitions.specs.Searches.{builds, has_patterns, is_regular, patterns}
use Rattle.definitions.specs.Values.{Text, Value}
use Rattle.definition_laws.proofs.AcceptedDocuments.{first_none}
use Rattle.shared_cache.specs.Refusals.{Refuses}
use Rattle.tenant_documents.specs.EntryRefusals.{IsRefusedUnder, IsRefusedAt, IsRefusedLibrary}

-- ---- one document
accepted_by : (d : Document) (faults : List Fault) (regular : Bool) → faults ≡ [] → regular ≡ true
    → accepted_document d (first (faults ++ when (not regular) bad_pattern)) ≡ Ok d
accepted_by d faults regular e h =
    ap (λ fs. accepted_document d (first (fs ++ when (not regular) bad_pattern))) e
    ∙ ap (λ b. accepted_document d (first (when (not b) bad_pattern))) h

pub is_accepted : (base : Text) (v : Value) → scan_fault base v ≡ None → is_regular regular_search v ≡ true
    → document_under regular_search (Ok base) v ≡ Ok (document_from base v)
is_accepted base v fine regular =
    accepted_by (document_from base v) (scan_faults base v) (is_regular regular_search v) (first_none (scan_faults base v) fine) regular

scan_refuses : (d : Document) (faults others : List Fault) (f : Fault) → first faults ≡ Some f → accepted_document d (first (faults ++ others)) ≡ Err f
scan_refuses d [] others f e = cc
scan_refuses d (x ∷ faults) others f e = ap (accepted_document d) e

irregular_refuses : (d : Document) (faults : List Fault) (regular : Bool) → faults ≡ [] → regular ≡ false
    → accepted_document d (first (faults ++ when (not regular) bad_pattern)) ≡ Err bad_pattern
irregular_refuses d faults regular e h =
    ap (λ fs. accepted_document d (first (fs ++ when (not regular) bad_pattern))) e
    ∙ ap (λ b. accepted_document d (first (when (not b) bad_pattern))) h

refuses_by : (base : Text) (v : Value) (regular : Bool) → is_regular regular_search v ≡ regular → scan_fault base v ≡ None → 0 < length (patterns v)
    → IsRefusedUnder (Ok base) v bad_pattern
refuses_by base v true e fine some_one =
    let there : has_patterns v ≡ true = grind (arith, nat_tests) in
    inr (
      refl,
      and_from (is_none (scan_fault base v)) (has_patterns v && is_regular regular_search v) (ap is_none fine)
          (and_from (has_patterns v) (is_regular regular_search v) there e),
    )
refuses_by base v false e fine some_one =
    inl (irregular_refuses (document_from base v) (scan_faults base v) (is_regular regular_search v) (first_none (scan_faults base v) fine) e)

-- what a scan and a compilation refuse
pub refuses_under : (base : Text) (v : Value) (f : Fault) → Refuses base v f → IsRefusedUnder (Ok base) v f
refuses_under base v f r = elim r [
  | inl found ↦ inl (scan_refuses (document_from base v) (scan_faults base v) (when (not (is_regular regular_search v)) bad_pattern) f found)
  | inr pattern ↦ subst (IsRefusedUnder (Ok base) v) (sym pattern.0) (refuses_by base v (is_regular regular_search v) refl pattern.1 pattern.2)
]

-- the text has a base form
pub refuses_entry : (base : Result Text Fault) (b : Text) (v : Value) (f : Fault) → base ≡ Ok b → IsRefusedUnder (Ok b) v f → IsRefusedUnder base v f
refuses_entry base b v f e r = subst (λ x. IsRefusedUnder x v f) (sym e) r

-- or has none
pub baseless : (base : Result Text Fault) (v : Value) (f : Fault) → base ≡ Err f → IsRefusedUnder base v f
baseless base v f e = inl (ap (λ b. document_under regular_search b v) e)

-- ---- entries in their order
module _ {A C : Type 0} (entry : A → Entry) (document : C → Document) where
  abbrev pub IsEnteredAs : List A → List C → Type 0
  IsEnteredAs xs ds = map (λ x. entry_document regular_search (entry x)) xs ≡ map (λ d. Ok (document d)) ds

  pub entered_all : (k : ℕ) (xs : List A) (ds : List C) → IsEnteredAs xs ds
      → entry_documents regular_search k (map entry xs) ≡ Ok (map document ds)
  entered_all k [] [] e = refl
  entered_all k [] (d ∷ ds) e = cc
  entered_all k (x ∷ xs) [] e = cc
  entered_all k (x ∷ xs) (d ∷ ds) e =
      let here : entry_document regular_search (entry x) ≡ Ok (document d) = cc in
      let others : IsEnteredAs xs ds = cc in
      ap (λ r. with_later k r (entry_documents regular_search (suc k) (map entry xs))) here
      ∙ ap (with_later k (Ok (document d))) (entered_all (suc k) xs ds others)

  -- where a walk has come to the end
  pub entered_to_end : (xs : List A) (ds : List C) (i : ℕ) → length xs ≤ i → IsEnteredAs (take i xs) ds
      → entry_documents regular_search 0 (map entry xs) ≡ Ok (map document ds)
  entered_to_end xs ds i end e = entered_all 0 xs ds (ap (map (λ x. entry_document regular_search (entry x))) (sym (take_all i xs end)) ∙ e)

  faulty_at : (k i : ℕ) (xs : List A) (ds : List C) (x : A) (f : Fault) → i < length xs → x ≡ get_or xs i x → IsEnteredAs (take i xs) ds
      → entry_document regular_search (entry x) ≡ Err f → entry_documents regular_search k (map entry xs) ≡ Err (k + i, f)
  faulty_at k i [] ds x f lt is e h = absurd (omega arith)
  faulty_at k zero (a ∷ xs) ds x f lt is e h =
      let none : k ≡ k + 0 = omega arith in
      ap (λ r. with_later k r (entry_documents regular_search (suc k) (map entry xs))) (ap (λ y. entry_document regular_search (entry y)) (sym is) ∙ h)
      ∙ ap (λ n. Err (n, f)) none
  faulty_at k (suc i) (a ∷ xs) [] x f lt is e h = cc
  faulty_at k (suc i) (a ∷ xs) (d ∷ ds) x f lt is e h =
      let here : entry_document regular_search (entry a) ≡ Ok (document d) = cc in
      let others : IsEnteredAs (take i xs) ds = cc in
      let next : suc k + i ≡ k + suc i = omega arith in
      ap (λ r. with_later k r (entry_documents regular_search (suc k) (map entry xs))) here
      ∙ ap (with_later k (Ok (document d))) (faulty_at (suc k) i xs ds x f (omega arith) is others h)
      ∙ ap (λ n. Err (n, f)) next

  building_at : (i : ℕ) (xs : List A) (ds : List C) (x : A) → i < length xs → x ≡ get_or xs i x → IsEnteredAs (take i xs) ds
      → builds regular_search (base_form (entry x).uri) (Ok (entry x).schema) ≡ true → builds_at regular_search i (map entry xs) ≡ true
  building_at i [] ds x lt is e h = absurd (omega arith)
  building_at zero (a ∷ xs) ds x lt is e h = ap (λ y. builds regular_search (base_form (entry y).uri) (Ok (entry y).schema)) (sym is) ∙ h
  building_at (suc i) (a ∷ xs) [] x lt is e h = cc
  building_at (suc i) (a ∷ xs) (d ∷ ds) x lt is e h =
      let here : entry_document regular_search (entry a) ≡ Ok (document d) = cc in
      let others : IsEnteredAs (take i xs) ds = cc in
      and_from (is_ok (entry_document regular_search (entry a))) (builds_at regular_search i (map entry xs)) (ap is_ok here)
      (building_at i xs ds x (omega arith) is others h)

  -- the entry at i is refused
  pub refused_there : (i : ℕ) (xs : List A) (ds : List C) (x : A) (f : Fault) → i < length xs → x ≡ get_or xs i x → IsEnteredAs (take i xs) ds
      → IsRefusedUnder (base_form (entry x).uri) (entry x).schema f → IsRefusedAt (map entry xs) i f
  refused_there i xs ds x f lt is e r = elim r [
    | inl fault ↦ (let none : 0 + i ≡ i = omega arith in inl (faulty_at 0 i xs ds x f lt is e fault ∙ ap (λ n. Err (n, f)) none))
    | inr room ↦ inr (room.0, building_at i xs ds x lt is e room.1)
  ]

-- ---- a library
-- one of its entries is refused
pub library_entry_refused : (es : List Entry) (n : ℕ) (f : Fault) → IsRefusedAt es n f → IsRefusedLibrary (Ok es) f
library_entry_refused es n f r = elim r [
  | inl fault ↦ inl (ap library_from fault)
  | inr room ↦ inr (room.0, (n, room.1))
]

pub library_refused : (es : List Entry) (ds : List Document) (f : Fault) → entry_documents regular_search 0 es ≡ Ok ds → library_with ds ≡ Err f
    → IsRefusedLibrary (Ok es) f
library_refused es ds f e h = inl (ap library_from e ∙ h)

pub library_made : (es : List Entry) (ds all : List Document) → entry_documents regular_search 0 es ≡ Ok ds → library_with ds ≡ Ok all
    → library_by regular_search (Ok es) ≡ Ok all
library_made es ds all e h = ap library_from e ∙ h

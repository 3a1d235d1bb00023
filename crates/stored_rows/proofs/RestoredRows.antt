-- Rows that are put back: what they leave, that they leave one thing, and which rows it has.
use Rattle.std.proofs.Common.{◌≡◌, ◌++◌, Bool, false, List, [], ◌∷◌, Contains, Option, Some, None, Ok, Result, Less, Greater, is_some, sym, refl, ap, ◌∙◌, subst, inl, inr, append_assoc, append-nil}
use Rattle.std.proofs.lemmas.List.Elements.{Contains-append_cases}
use Rattle.std.specs.List.Sorted.{IsStrictlySortedBy}
use Rattle.std.specs.Ordering.{ordering_reverse}
use Rattle.definitions.specs.Documents.{document_of, documents_with}
use Rattle.definitions.specs.Documents as documents
use Rattle.definitions.specs.Faults.{Fault}
use Rattle.definitions.specs.Registries.{Registry, Reply, decision, put_refusal, refused, stored}
use Rattle.definitions.specs.Schemas.{document_from}
use Rattle.definitions.specs.Searches.{Search}
use Rattle.definitions.specs.Services.{KeyedRegistry, Call, call_at, registry_of, with_registry}
use Rattle.definitions.specs.Steps.{step}
use Rattle.definitions.specs.Values.{Text}
use Rattle.lemmas.proofs.SomeValues.{some_same}
use Rattle.definition_laws.specs.Keeping.{IsSetAlike}
use Rattle.definition_laws.proofs.JoinedDocuments.{ascend_placed}
use Rattle.definition_laws.proofs.Membership.{nothing_in, is_first, is_later, first_or_later}
use Rattle.definition_laws.proofs.Steps.{quotas_stay}
use Rattle.stored_rows.specs.Laws.{CallsKeepWhatIsEmptied, RestoredRowsAreStored, RestoringKeepsWhatIsEmptied, RowsGiveOneResult}
use Rattle.stored_rows.specs.Restoring.{HaveDistinctDigests, PutsBack, Restores, emptied}
use Rattle.stored_rows.specs.Rows.{Ascend, Row, digest, row_cmp, rows_of, with_row}
use Rattle.stored_rows.proofs.ChangedRows.{own_ascend, put_rows, with_rows}
use Rattle.stored_rows.proofs.KeyedRegistries.{all_ascend_with, emptied_with, found, one_keyed, still_distinct}
use Rattle.stored_rows.proofs.RegistryRows.{AllAscend}
use Rattle.stored_rows.proofs.RowOrder.{ascend_rest, below, row_order}

-- ---- a row that is put back
stored_by : (o : Option Fault) (canonical uri : Text) (was : Bool) (after before h : Registry)
    → ◌≡◌ {A = Reply × Registry} (decision o (stored canonical was) after before) (stored uri false, h) → h ≡ after
stored_by None canonical uri was after before h e = sym (ap (λ (x : Reply × Registry). x.1) e)
stored_by (Some f) canonical uri was after before h e = absurd (other (ap (λ (x : Reply × Registry). x.0) e))
  where
    other : refused f ≡ stored uri false → ⊥
    other e = cc

pub has_document : (search : Search) (g : Registry) (key : Text) (r : Row) (h : Registry) (p : PutsBack search g key r h)
    → h ≡ record g { documents = documents_with (document_from p.base p.value) g.documents }
has_document search g key r h p =
    let d = document_from p.base p.value in
    let after = documents_with d g.documents in
    stored_by (put_refusal search g d after) d.canonical r.uri (is_some (document_of g.documents d.canonical)) (record g { documents = after }) g h p.puts

-- ---- keys, quotas and the library stay
pub restoring_keeps : RestoringKeepsWhatIsEmptied
restoring_keeps search ks ls [] is = ap emptied is
restoring_keeps search ks ls (r ∷ rs) (key, g, h, is_digest, is, puts, rest) =
    restoring_keeps search (with_registry ks key h) ls rs rest
    ∙ emptied_with ks key g h is (ap (λ (x : Registry). record x { documents = [] }) (has_document search g key r h puts))

set_alike : (g h : Registry) → IsSetAlike g h → record h { documents = [] } ≡ record g { documents = [] }
set_alike g h a =
    ap (λ l. record h { documents = []; library = l }) a.library
    ∙ ap (λ n. record h { documents = []; library = g.library; most_documents = n }) a.most_documents
    ∙ ap (λ n. record g { documents = []; most_bytes = n }) a.most_bytes

called_keeps : (search : Search) (ks : List KeyedRegistry) (c : Call) (o : Option Registry) → registry_of ks c.0 ≡ o → emptied (call_at search ks c o).1 ≡ emptied ks
called_keeps search ks c None is = refl
called_keeps search ks c (Some g) is = emptied_with ks c.0 g (step search g c.1).1 is (set_alike g (step search g c.1).1 (quotas_stay search g c.1))

pub calls_keep : CallsKeepWhatIsEmptied
calls_keep search ks ls c r (inl s) = ap emptied s.1 ∙ called_keeps search ks c (registry_of ks c.0) refl
calls_keep search ks ls c r (inr s) = ap emptied s.2

-- ---- one result
ok_same : {A E : Type 0} {x y : A} → ◌≡◌ {A = Result A E} (Ok x) (Ok y) → x ≡ y
ok_same e = cc

one_put : (search : Search) (g h i : Registry) (key other : Text) (r : Row) → PutsBack search g key r h → PutsBack search g other r i → h ≡ i
one_put search g h i key other r p q =
    let base : p.base ≡ q.base = ok_same (sym p.has_base ∙ q.has_base) in
    let value : p.value ≡ q.value = ok_same (sym p.has_value ∙ q.has_value) in
    has_document search g key r h p
    ∙ ap (λ b. record g { documents = documents_with (document_from b p.value) g.documents }) base
    ∙ ap (λ v. record g { documents = documents_with (document_from q.base v) g.documents }) value
    ∙ sym (has_document search g other r i q)

one_key : (ks : List KeyedRegistry) (key other : Text) (g h : Registry) → HaveDistinctDigests ks → registry_of ks key ≡ Some g → registry_of ks other ≡ Some h
    → digest key ≡ digest other → key ≡ other
one_key ks key other g h distinct is also same =
    let a = found ks key g is in
    let b = found ks other h also in
    sym a.has_key
    ∙ ap (λ (k : KeyedRegistry). k.key) (one_keyed ks a.keyed b.keyed distinct a.among b.among (ap digest a.has_key ∙ same ∙ sym (ap digest b.has_key)))
    ∙ b.has_key

pub one_result : RowsGiveOneResult
one_result search ks ls ms [] distinct a b = a ∙ sym b
one_result search ks ls ms (r ∷ rs) distinct (key, g, h, is_digest, is, puts, rest) (key', g', h', is_digest', is', puts', rest') =
    let keys : key ≡ key' = one_key ks key key' g g' distinct is is' (is_digest ∙ sym is_digest') in
    let registries : g' ≡ g = some_same (sym is' ∙ ap (registry_of ks) (sym keys) ∙ is) in
    let after : h ≡ h' = one_put search g h h' key key' r puts (subst (λ x. PutsBack search x key' r h') registries puts') in
    let same : with_registry ks key h ≡ with_registry ks key' h' = ap (λ t. with_registry ks t h) keys ∙ ap (with_registry ks key') after in
    one_result search (with_registry ks key' h') ls ms rs (still_distinct ks key' h' distinct) (subst (λ x. Restores search x rs ls) same rest) rest'

-- ---- which rows they have
pub restored : (search : Search) (ks ls : List KeyedRegistry) (rs : List Row) → HaveDistinctDigests ks → AllAscend ks → Restores search ks rs ls
    → rows_of ls ≡ with_rows rs (rows_of ks)
restored search ks ls [] distinct up is = ap rows_of is
restored search ks ls (r ∷ rs) distinct up (key, g, h, is_digest, is, puts, rest) =
    let d = document_from puts.base puts.value in
    let made = has_document search g key r h puts in
    let sorted : documents.Ascend h.documents =
    subst (λ (x : Registry). documents.Ascend x.documents) (sym made) (ascend_placed d g.documents (own_ascend ks key g up is)) in
    restored search (with_registry ks key h) ls rs (still_distinct ks key h distinct) (all_ascend_with ks key g h distinct is up sorted) rest
    ∙ ap (with_rows rs) (ap (λ x. rows_of (with_registry ks key x)) made ∙ put_rows ks key g distinct up is d ∙ ap (λ x. with_row x (rows_of ks)) puts.has_row)

-- above all others a row stands behind them
at_end : (r : Row) (xs : List Row) → ((x : Row) → Contains xs x → row_cmp x r ≡ Less) → with_row r xs ≡ xs ++ r ∷ []
at_end r [] under = refl
at_end r (x ∷ xs) under =
    let above : row_cmp r x ≡ Greater = row_order.antisymm r x ∙ ap ordering_reverse (under x (is_first x xs)) in
    rw above (ap (λ l. x ∷ l) (at_end r xs (λ y c. under y (is_later x y xs c))))

in_turn : (rs xs : List Row) → Ascend rs → ((x r : Row) → Contains xs x → Contains rs r → row_cmp x r ≡ Less) → with_rows rs xs ≡ xs ++ rs
in_turn [] xs up under = sym (append-nil xs)
in_turn (r ∷ rs) xs up under =
    ap (with_rows rs) (at_end r xs (λ x c. under x r c (is_first r rs)))
    ∙ in_turn rs (xs ++ r ∷ []) (ascend_rest r rs up) (λ x s c k. elim (Contains-append_cases xs (r ∷ []) x c) [
      | inl before ↦ under x s before (is_later r s rs k)
      | inr own ↦ elim (first_or_later r x [] own) [
        | inl same ↦ subst (λ y. row_cmp y s ≡ Less) same (below r s rs up k)
        | inr nowhere ↦ absurd (nothing_in x nowhere)
      ]
    ])
    ∙ append_assoc xs (r ∷ []) rs

no_rows : (ks : List KeyedRegistry) → rows_of (emptied ks) ≡ []
no_rows [] = refl
no_rows (k ∷ ks) = no_rows ks

none_ascend : documents.Ascend []
unfolding IsStrictlySortedBy
none_ascend = tt

emptied_ascend : (ks : List KeyedRegistry) → AllAscend (emptied ks)
emptied_ascend [] k c = absurd (nothing_in k c)
emptied_ascend (l ∷ ks) k c = elim (first_or_later (record l { registry = record l.registry { documents = [] } }) k (emptied ks) c) [
  | inl same ↦ subst (λ (m : KeyedRegistry). documents.Ascend m.registry.documents) same none_ascend
  | inr later ↦ emptied_ascend ks k later
]

pub restored_rows : RestoredRowsAreStored
restored_rows search ks ls rs distinct empty up is =
    restored search ks ls rs distinct (subst AllAscend empty (emptied_ascend ks)) is
    ∙ ap (with_rows rs) (ap rows_of (sym empty) ∙ no_rows ks)
    ∙ in_turn rs [] up (λ x r c k. absurd (nothing_in x c))

-- ---- one more row
pub restores_then : (search : Search) (ks ms : List KeyedRegistry) (rs : List Row) (r : Row) (key : Text) (g h : Registry) → Restores search ks rs ms → digest key ≡ r.tenant
    → registry_of ms key ≡ Some g → PutsBack search g key r h → Restores search ks (rs ++ r ∷ []) (with_registry ms key h)
restores_then search ks ms [] r key g h same is_digest is puts =
    (key, g, h, is_digest, ap (λ xs. registry_of xs key) (sym same) ∙ is, puts, ap (λ xs. with_registry xs key h) same)
restores_then search ks ms (s ∷ rs) r key g h (other, e, f, has_digest, there, put, rest) is_digest is puts =
    (other, e, f, has_digest, there, put, restores_then search (with_registry ks other f) ms rs r key g h rest is_digest is puts)

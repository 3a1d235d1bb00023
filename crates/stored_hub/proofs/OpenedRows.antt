-- Rows that are read and put back, one after the other.
use Rattle.std.proofs.Common.{◌≡◌, ◌≢◌, ◌++◌, List, [], ◌∷◌, Bool, false, Contains, Option, Some, None, Less, Greater, is_some, refl, sym, ap, ◌∙◌, subst, inl, inr}
use Rattle.std.proofs.lemmas.List.Elements.{Contains-append_cases, Contains-append_right}
use Rattle.std.specs.Prelude.{option_and_then}
use Rattle.std.specs.Ordering.{match_ordering, ordering_reverse}
use Rattle.definitions.specs.Documents.{document_of, documents_with}
use Rattle.definitions.specs.Faults.{Fault}
use Rattle.definitions.specs.Patterns.{regular_search}
use Rattle.definitions.specs.Registries.{Registry, Reply, decision, put_into, put_refusal, refused, stored}
use Rattle.definitions.specs.Schemas.{Document, document_from}
use Rattle.definitions.specs.Services.{KeyedRegistry, registry_of, with_registry}
use Rattle.definitions.specs.Texts.{text}
use Rattle.definitions.specs.Values.{Text}
use Rattle.lemmas.proofs.SomeValues.{some_same}
use Rattle.definition_laws.specs.Services.{AreAllKept}
use Rattle.definition_laws.proofs.JoinedDocuments.{ascend_placed}
use Rattle.definition_laws.proofs.Membership.{nothing_in, is_first, is_later, first_or_later}
use Rattle.definition_laws.proofs.PlacedDocuments.{placed_itself}
use Rattle.stored_rows.specs.Restoring.{HaveDistinctDigests, Restores, emptied}
use Rattle.stored_rows.specs.Rows.{Row, Ascend, digest, row_cmp, rows_of, with_row}
use Rattle.stored_rows.proofs.AnsweredRows.{found_document}
use Rattle.stored_rows.proofs.KeyedRegistries.{own_after}
use Rattle.stored_rows.proofs.RestoredRows.{restored_rows}
use Rattle.stored_rows.proofs.RowOrder.{ascend_with, row_order}
use Rattle.stored_hub.specs.Opening.{IsBehind, IsPutBack, IsRestoredFrom}
use Rattle.stored_hub.specs.Storing.{OnlyReads, RecoversNoMore}
use Rattle.tenant_hub.specs.PutBack.{IsRestored, stored_texts_of}
use Rattle.tenant_hub.proofs.PutBack.{restored_into}
use Rattle.stored_hub.proofs.WrittenRows.{has_texts}

-- ---- the order
turned : (r s : Row) → row_cmp s r ≡ Less → row_cmp r s ≡ Greater
turned r s e = row_order.antisymm r s ∙ ap ordering_reverse e

at_end : (rows : List Row) (r : Row) → ((s : Row) → Contains rows s → row_cmp s r ≡ Less) → with_row r rows ≡ rows ++ r ∷ []
at_end [] r less = refl
at_end (s ∷ ss) r less =
    ap (λ o. match_ordering o (r ∷ s ∷ ss) (r ∷ ss) (s ∷ with_row r ss)) (turned r s (less s (is_first s ss)))
    ∙ ap (λ l. s ∷ l) (at_end ss r (λ t c. less t (is_later s t ss c)))

-- what stands behind the last one stands behind all of these
abbrev pub EndsAt : List Row → Option Row → Type 0
EndsAt rows last = (r s : Row) → IsBehind last r → Contains rows s → row_cmp s r ≡ Less

pub ends_nowhere : EndsAt [] None
ends_nowhere r s behind c = absurd (nothing_in s c)

pub ends_later : (rows : List Row) (last : Option Row) (next : Row) → IsBehind last next → EndsAt rows last → EndsAt (rows ++ next ∷ []) (Some next)
ends_later rows last next behind ends r s after c = elim (Contains-append_cases rows (next ∷ []) s c) [
  | inl before ↦ row_order.trans s next r (ends next s behind before) after
  | inr here ↦ elim (first_or_later next s [] here) [
    | inl same ↦ subst (λ t. row_cmp t r ≡ Less) same after
    | inr nowhere ↦ absurd (nothing_in s nowhere)
  ]
]

pub ascend_later : (rows : List Row) (last : Option Row) (next : Row) → IsBehind last next → EndsAt rows last → Ascend rows → Ascend (rows ++ next ∷ [])
ascend_later rows last next behind ends up = subst Ascend (at_end rows next (λ s c. ends next s behind c)) (ascend_with next rows up)

-- the last one is one of these
abbrev pub HasLast : List Row → Option Row → Type 0
HasLast rows last = (s : Row) → last ≡ Some s → Contains rows s

pub has_none : HasLast [] None
has_none s e = cc

pub has_next : (rows : List Row) (next : Row) → HasLast (rows ++ next ∷ []) (Some next)
has_next rows next s e = subst (Contains (rows ++ next ∷ [])) (some_same e) (Contains-append_right rows (next ∷ []) next (is_first next []))

-- one of these isn't before the row
abbrev pub Outruns : List Row → Row → Type 0
Outruns rows r = (last : Row) × Contains rows last × (row_cmp last r ≢ Less)

pub not_behind : (rows : List Row) (last : Option Row) (r : Row) → HasLast rows last → ¬ IsBehind last r → Outruns rows r
not_behind rows None r has apart = absurd (apart tt)
not_behind rows (Some s) r has apart = (s, has s refl, apart)

-- ---- one more
pub restores_later : (ks ms ls : List KeyedRegistry) (rows : List Row) (r : Row) → Restores regular_search ks rows ms → IsPutBack ms r ls
    → Restores regular_search ks (rows ++ r ∷ []) ls
restores_later ks ms ls [] r is (key, g, h, is_digest, own, back, with_it) =
    (key, g, h, is_digest, subst (λ xs. registry_of xs key ≡ Some g) is own, back, with_it ∙ ap (λ xs. with_registry xs key h) is)
restores_later ks ms ls (s ∷ rows) r (key, g, h, is_digest, own, back, rest) put =
    (key, g, h, is_digest, own, back, restores_later (with_registry ks key h) ms ls rows r rest put)

-- ---- a row that was put back
stored_as : (o : Option Fault) (canonical uri : Text) (was : Bool) (after before h : Registry)
    → ◌≡◌ {A = Reply × Registry} (decision o (stored canonical was) after before) (stored uri false, h) → (canonical ≡ uri) × (h ≡ after)
stored_as None canonical uri was after before h e = (same_uri (ap (λ (x : Reply × Registry). x.0) e), sym (ap (λ (x : Reply × Registry). x.1) e))
  where
    same_uri : {a b : Text} {c d : Bool} → stored a c ≡ stored b d → a ≡ b
    same_uri e = cc
stored_as (Some f) canonical uri was after before h e = absurd (other (ap (λ (x : Reply × Registry). x.0) e))
  where
    other : refused f ≡ stored uri false → ⊥
    other e = cc

abbrev row_with : Text → Text → Text → Text → Row
row_with tenant uri base txt = record { tenant = tenant; uri = uri; base = base; text = txt }

pub put_back_as_written : (ks ls : List KeyedRegistry) (r : Row) (key uri : Text) → AreAllKept regular_search ks → digest key ≡ r.tenant
    → IsRestored ks key r.base r.text (stored uri false) ls → uri ≡ r.uri → stored_texts_of ls key r.uri ≡ Some (r.base, r.text) → IsPutBack ks r ls
put_back_as_written ks ls r key uri kept is_digest restored same texts =
    let into = restored_into ks ls key r.base r.text uri restored in
    let d = document_from into.back.under into.back.value in
    let g = into.before in
    let after = record g { documents = documents_with d g.documents } in
    let parts = stored_as (put_refusal regular_search g d (documents_with d g.documents)) d.canonical uri (is_some (document_of g.documents d.canonical)) after g into.after into.back.puts in
    let has = has_texts ls key r.uri r.base r.text texts in
    let own : registry_of ls key ≡ Some into.after = ap (λ xs. registry_of xs key) into.with_it ∙ own_after ks key g into.after into.own in
    let up = ascend_placed d g.documents (kept key g into.own).ordered in
    let found : document_of (documents_with d g.documents) d.canonical ≡ Some d = found_document (documents_with d g.documents) d up (placed_itself d g.documents) in
    let here : option_and_then (λ i. document_of i.documents r.uri) (registry_of ls key) ≡ Some d =
    ap (option_and_then (λ i. document_of i.documents r.uri)) own
    ∙ ap (λ (i : Registry). document_of i.documents r.uri) parts.1
    ∙ ap (document_of (documents_with d g.documents)) (sym (parts.0 ∙ same)) ∙ found in
    let one : d ≡ has.document = some_same (sym here ∙ has.there) in (
      key,
      g,
      into.after,
      is_digest,
      into.own,
      record {
        base = into.back.under;
        value = into.back.value;
        has_base = into.back.has_base;
        has_value = into.back.has_value;
        puts = subst (λ u. put_into regular_search g d ≡ (stored u false, into.after)) same into.back.puts;
        has_row =
            ap (λ t. row_with t d.canonical d.base (text d.value)) is_digest
            ∙ ap (λ u. row_with r.tenant u d.base (text d.value)) (parts.0 ∙ same)
            ∙ ap (λ b. row_with r.tenant r.uri b (text d.value)) (ap (λ (e : Document). e.base) one ∙ has.own_base)
            ∙ ap (row_with r.tenant r.uri r.base) (ap (λ (e : Document). text e.value) one ∙ has.own_text);
      },
      into.with_it,
    )

-- ---- a store that is read on
pub read_nothing : {D : Type 0} {holds recovers : D → List Row → Type 0} {store : D} → OnlyReads holds recovers store store
read_nothing = record { same = λ rs held. held; found = λ rs may. may }

pub read_on : {D : Type 0} {holds recovers : D → List Row → Type 0} {first before after : D} → OnlyReads holds recovers first before
    → ((rs : List Row) → holds before rs → holds after rs) → RecoversNoMore recovers before after → OnlyReads holds recovers first after
read_on earlier same found =
    record { same = λ rs held. same rs (earlier.same rs held); found = λ rs may. earlier.found rs (found rs may) }

-- ---- all of them
pub all_restored : {D : Type 0} (holds : D → List Row → Type 0) (store : D) (ks ls : List KeyedRegistry) (rows : List Row) → HaveDistinctDigests ks → emptied ks ≡ ks
    → Ascend rows → Restores regular_search ks rows ls → holds store rows → IsRestoredFrom holds ks store ls
all_restored holds store ks ls rows distinct empty up restores held = (rows, (held, restores, restored_rows regular_search ks ls rows distinct empty up restores))

pub has_its_rows : {D : Type 0} (holds : D → List Row → Type 0) (store : D) (ks ls : List KeyedRegistry) → IsRestoredFrom holds ks store ls → holds store (rows_of ls)
has_its_rows holds store ks ls (rows, (held, restores, same)) = subst (holds store) (sym same) held

-- The rows of registries, put back, give the registries.
use Rattle.std.proofs.Common.{◌≡◌, ◌&&◌, ◌||◌, Bool, true, false, not, cond, List, [], ◌∷◌, Contains, Some, filter, map, sym, refl, ap, ap₂, ◌∙◌, subst, inl, inr, true≢false}
use Rattle.std.proofs.lemmas.Bool.{false_from_ne_true}
use Rattle.std.specs.List.{list_any}
use Rattle.definitions.specs.Lists.{has_repeat}
use Rattle.definitions.specs.Schemas.{Document}
use Rattle.definitions.specs.Searches.{Search}
use Rattle.definitions.specs.Services.{KeyedRegistry, registry_of, with_registry}
use Rattle.definitions.specs.Values.{same_text}
use Rattle.lemmas.proofs.Texts.{same_text_is, same_text_itself}
use Rattle.definition_laws.specs.Services.{AreAllKept}
use Rattle.definition_laws.proofs.Membership.{nothing_in, is_first, is_later, first_or_later, any_at, in_map}
use Rattle.definition_laws.proofs.Replacing.{all_kept}
use Rattle.stored_rows.specs.Laws.{HaveOwnBodies, RowsGiveRegistriesBack}
use Rattle.stored_rows.specs.Restoring.{HaveDistinctDigests, Restores, emptied}
use Rattle.stored_rows.specs.Rows.{Ascend, Row, digest, is_row_at, row_of, rows_of}
use Rattle.stored_rows.proofs.AnsweredRows.{all_ascend}
use Rattle.stored_rows.proofs.KeyedRegistries.{found_there, one_keyed}
use Rattle.stored_rows.proofs.PutBackDocuments.{keeps, left_documents, none_left, puts_back, row_there}
use Rattle.stored_rows.proofs.RegistryRows.{IsRowOf, first_digest, from_rows, in_rows, later_digests, rows_ascend}
use Rattle.stored_rows.proofs.RowOrder.{ascend_rest}

-- ---- the registries without the documents whose rows are among these
abbrev left_in : List Row → KeyedRegistry → KeyedRegistry
left_in rs k = record k { registry = record k.registry { documents = left_documents rs k.key k.registry.documents } }

abbrev left : List Row → List KeyedRegistry → List KeyedRegistry
left rs = map (left_in rs)

left_digests : (rs : List Row) (ks : List KeyedRegistry) → map (λ k. digest k.key) (left rs ks) ≡ map (λ k. digest k.key) ks
left_digests rs [] = refl
left_digests rs (k ∷ ks) = ap (λ l. digest k.key ∷ l) (left_digests rs ks)

-- without none
left_none : (ks : List KeyedRegistry) → left [] ks ≡ ks
left_none [] = refl
left_none (k ∷ ks) =
    ap₂ (λ ds l. record k { registry = record k.registry { documents = ds } } ∷ l) (all_kept (keeps [] k.key) k.registry.documents (λ d c. refl)) (left_none ks)

-- without all
left_all : (rs : List Row) (ks : List KeyedRegistry) → ((k : KeyedRegistry) (d : Document) → Contains ks k → Contains k.registry.documents d → Contains rs (row_of k.key d))
    → left rs ks ≡ emptied ks
left_all rs [] all = refl
left_all rs (k ∷ ks) all =
    ap₂ (λ ds l. record k { registry = record k.registry { documents = ds } } ∷ l)
    (none_left (keeps rs k.key) k.registry.documents (λ d c. ap not (any_at (is_row_at (digest k.key) d.canonical) (row_of k.key d) rs (all k d (is_first k ks) c) (row_there k.key d))))
    (left_all rs ks (λ l d c. all l d (is_later k l ks c)))

-- ---- one row
same_part : {X : Type 0} (p q : X → Bool) (xs : List X) → ((x : X) → p x ≡ q x) → filter p xs ≡ filter q xs
same_part p q [] h = refl
same_part p q (x ∷ xs) h = ap₂ (λ b l. cond b (x ∷ l) l) (h x) (same_part p q xs h)

-- of another tenant
other_left : (r : Row) (rs : List Row) (k : KeyedRegistry) → (digest k.key ≡ r.tenant → ⊥) → left_in (r ∷ rs) k ≡ left_in rs k
other_left r rs k other =
    let apart : same_text (digest k.key) r.tenant ≡ false = false_from_ne_true (same_text (digest k.key) r.tenant) (λ e. other (same_text_is (digest k.key) r.tenant e)) in
    ap (λ ds. record k { registry = record k.registry { documents = ds } })
    (same_part (keeps (r ∷ rs) k.key) (keeps rs k.key) k.registry.documents
    (λ d. ap (λ b. not (b && same_text d.canonical r.uri || list_any (is_row_at (digest k.key) d.canonical) rs)) apart))

others_left : (r : Row) (rs : List Row) (ks : List KeyedRegistry) → ((k : KeyedRegistry) → Contains ks k → digest k.key ≡ r.tenant → ⊥) → left (r ∷ rs) ks ≡ left rs ks
others_left r rs [] other = refl
others_left r rs (k ∷ ks) other = ap₂ (λ l ls. l ∷ ls) (other_left r rs k (other k (is_first k ks))) (others_left r rs ks (λ l c. other l (is_later k l ks c)))

-- of the tenant with this key
own_left : (rs : List Row) (ks : List KeyedRegistry) (k : KeyedRegistry) (d : Document) → HaveDistinctDigests ks → Contains ks k
    → with_registry (left (row_of k.key d ∷ rs) ks) k.key (left_in rs k).registry ≡ left rs ks
own_left rs [] k d distinct c = absurd (nothing_in k c)
own_left rs (l ∷ ks) k d distinct c = by (same_text k.key l.key) refl (own_left rs ks k d (later_digests l ks distinct))
  where
    r : Row
    r = row_of k.key d

    by : (b : Bool) → same_text k.key l.key ≡ b → (Contains ks k → with_registry (left (r ∷ rs) ks) k.key (left_in rs k).registry ≡ left rs ks)
        → cond b (record (left_in (r ∷ rs) l) { registry = (left_in rs k).registry } ∷ left (r ∷ rs) ks) (left_in (r ∷ rs) l ∷ with_registry (left (r ∷ rs) ks) k.key (left_in rs k).registry)
        ≡ left rs (l ∷ ks)
    by true e more =
        let same : k ≡ l = one_keyed (l ∷ ks) k l distinct c (is_first l ks) (ap digest (same_text_is k.key l.key e)) in
        ap₂ (λ x ls. record l { registry = x } ∷ ls) (ap (λ m. (left_in rs m).registry) same)
        (others_left r rs ks (λ m there alike. first_digest l m ks distinct there (ap digest (sym (same_text_is k.key l.key e)) ∙ sym alike)))
    by false e more =
        let later : Contains ks k = elim (first_or_later l k ks c) [
          | inl same ↦ absurd (true≢false (sym (ap (λ (m : KeyedRegistry). same_text k.key m.key) same ∙ same_text_itself k.key) ∙ e))
          | inr there ↦ there
        ] in
        ap₂ (λ m ls. m ∷ ls) (other_left r rs l (first_digest l k ks distinct later)) (more later)

-- ---- one after the other
module _ (search : Search) (ks : List KeyedRegistry) (distinct : HaveDistinctDigests ks) (kept : AreAllKept search ks) (bodies : HaveOwnBodies ks) where
  put_first : (k : KeyedRegistry) (d : Document) (rs : List Row) → Contains ks k → Contains k.registry.documents d → Ascend (row_of k.key d ∷ rs) → Restores search (left rs ks) rs ks
      → Restores search (left (row_of k.key d ∷ rs) ks) (row_of k.key d ∷ rs) ks
  put_first k d rs among inside up rest =
      let r = row_of k.key d in
      let is : registry_of ks k.key ≡ Some k.registry = found_there ks k distinct among in
      let own = bodies k.key k.registry is in (
        k.key,
        (left_in (r ∷ rs) k).registry,
        (left_in rs k).registry,
        refl,
        found_there (left (r ∷ rs) ks) (left_in (r ∷ rs) k) (ap (has_repeat same_text) (left_digests (r ∷ rs) ks) ∙ distinct) (in_map (left_in (r ∷ rs)) k ks among),
        puts_back search k.registry k.key d rs (kept k.key k.registry is) inside up (own.0 d inside) (own.1 d inside),
        subst (λ ls. Restores search ls rs ks) (sym (own_left rs ks k d distinct among)) rest,
      )

  put_each : (rs : List Row) → Ascend rs → ((r : Row) → Contains rs r → IsRowOf ks r) → Restores search (left rs ks) rs ks
  put_each [] up each = sym (left_none ks)
  put_each (r ∷ rs) up each =
      let from = each r (is_first r rs) in
      subst (λ x. Restores search (left (x ∷ rs) ks) (x ∷ rs) ks) (sym from.is)
      (put_first from.keyed from.document rs from.among from.inside (subst (λ x. Ascend (x ∷ rs)) from.is up) (put_each rs (ascend_rest r rs up) (λ s c. each s (is_later r s rs c))))

pub rows_give_back : RowsGiveRegistriesBack
rows_give_back search ks distinct kept bodies =
    subst (λ ls. Restores search ls (rows_of ks) ks) (left_all (rows_of ks) ks (λ k d c inside. in_rows ks k d distinct (all_ascend search ks distinct kept) c inside))
    (put_each search ks distinct kept bodies (rows_of ks) (rows_ascend ks) (from_rows ks))

-- The rows of registries where one tenant's documents changed.
use Rattle.std.proofs.Common.{◌≡◌, ◌⊎◌, ◌&&◌, Bool, true, false, not, List, [], ◌∷◌, Contains, Some, Equal, sym, refl, ap, ◌∙◌, subst, inl, inr, true≢false}
use Rattle.std.specs.Cmp.Lexicographic.{slice_cmp, bytes_decides}
use Rattle.std.specs.Ordering.{nat_cmp}
use Rattle.definitions.specs.Documents.{canonicals, documents_with, documents_with_all, others_of}
use Rattle.definitions.specs.Documents as documents
use Rattle.definitions.specs.Registries.{Registry}
use Rattle.definitions.specs.Schemas.{Document}
use Rattle.definitions.specs.Services.{KeyedRegistry, registry_of, with_registry}
use Rattle.definitions.specs.Values.{Text, same_text}
use Rattle.lemmas.proofs.Texts.{same_text_is}
use Rattle.definition_laws.proofs.JoinedDocuments.{ascend_placed, tie_at}
use Rattle.definition_laws.proofs.JoinedDocuments as joined
use Rattle.definition_laws.proofs.Membership.{from_filter, in_filter, one_of}
use Rattle.definition_laws.proofs.PlacedDocuments.{from_placed, in_placed, key_of, placed_itself}
use Rattle.definition_laws.proofs.Placing.{ascending_distinct}
use Rattle.definition_laws.proofs.ReachedSets.{same_text-back}
use Rattle.stored_rows.specs.Restoring.{HaveDistinctDigests}
use Rattle.stored_rows.specs.Rows.{Ascend, Row, digest, is_row_at, row_cmp, row_of, rows_of, with_row, without_row}
use Rattle.stored_rows.proofs.KeyedRegistries.{all_ascend_with, found, one_keyed, other_stays, own_after, own_or_other, still_distinct, with_last, with_own}
use Rattle.stored_rows.proofs.RegistryRows.{AllAscend, from_rows, in_rows, rows_ascend}
use Rattle.stored_rows.proofs.RowOrder.{ascend_part, ascend_with, put_in, put_or_other, rows_tie, same_rows, still_in, tied_rows}

-- one document at most has a canonical URI
pub one_document : (ds : List Document) (d e : Document) → documents.Ascend ds → Contains ds d → Contains ds e → d.canonical ≡ e.canonical → d ≡ e
one_document ds d e up c k same =
    one_of same_text key_of same_text-back ds
    (ascending_distinct (slice_cmp nat_cmp) same_text (λ a b alike. tie_at a b (same_text_is a b alike)) (canonicals ds) up)
    d e c k ((bytes_decides d.canonical e.canonical).1 same)

-- the tenant's documents ascend as all do
pub own_ascend : (ks : List KeyedRegistry) (key : Text) (g : Registry) → AllAscend ks → registry_of ks key ≡ Some g → documents.Ascend g.documents
own_ascend ks key g up is = let f = found ks key g is in subst (λ (x : Registry). documents.Ascend x.documents) f.has_registry (up f.keyed f.among)

module _ (ks : List KeyedRegistry) (key : Text) (g : Registry) (distinct : HaveDistinctDigests ks) (up : AllAscend ks) (is : registry_of ks key ≡ Some g) where
  -- ---- the tenant's own rows
  pub own_row : (d : Document) → Contains g.documents d → Contains (rows_of ks) (row_of key d)
  own_row d c =
      let f = found ks key g is in
      subst (λ t. Contains (rows_of ks) (row_of t d)) f.has_key
      (in_rows ks f.keyed d distinct up f.among (subst (λ (x : Registry). Contains x.documents d) (sym f.has_registry) c))

  abbrev IsOwn : Row → Type 0
  IsOwn r = (d : Document) × (Contains g.documents d × (r ≡ row_of key d))

  pub own_document : (r : Row) → Contains (rows_of ks) r → r.tenant ≡ digest key → IsOwn r
  own_document r c same =
      let f = found ks key g is in
      let from = from_rows ks r c in
      let one : from.keyed ≡ f.keyed =
      one_keyed ks from.keyed f.keyed distinct from.among f.among (ap (λ (x : Row). x.tenant) (sym from.is) ∙ same ∙ ap digest (sym f.has_key)) in (
        from.document,
        (
          subst (λ (x : Registry). Contains x.documents from.document) (ap (λ (k : KeyedRegistry). k.registry) one ∙ f.has_registry) from.inside,
          from.is ∙ ap (λ t. row_of t from.document) (ap (λ (k : KeyedRegistry). k.key) one ∙ f.has_key),
        ),
      )

  -- ---- the rows with other documents of the tenant
  abbrev IsOfOther : Row → Type 0
  IsOfOther r = Contains (rows_of ks) r × (r.tenant ≡ digest key → ⊥)

  record AreChanged (ds : List Document) (rows : List Row) : Type 0 where
    ascend : Ascend rows
    own : (d : Document) → Contains ds d → Contains rows (row_of key d)
    others : (r : Row) → Contains (rows_of ks) r → (r.tenant ≡ digest key → ⊥) → Contains rows r
    back : (r : Row) → Contains rows r → IsOfOther r ⊎ ((d : Document) × (Contains ds d × (r ≡ row_of key d)))

  changed : (ds : List Document) (rows : List Row) → documents.Ascend ds → AreChanged ds rows → rows_of (with_registry ks key (record g { documents = ds })) ≡ rows
  changed ds rows sorted are = same_rows (rows_of ls) rows (rows_ascend ls) are.ascend over under
    where
      h : Registry
      h = record g { documents = ds }

      ls : List KeyedRegistry
      ls = with_registry ks key h

      still : HaveDistinctDigests ls
      still = still_distinct ks key h distinct

      all_up : AllAscend ls
      all_up = all_ascend_with ks key g h distinct is up sorted

      over : (r : Row) → Contains (rows_of ls) r → Contains rows r
      over r c =
          let from = from_rows ls r c in
          elim (own_or_other ks key g h from.keyed distinct is from.among) [
            | inl own ↦
                subst (Contains rows) (sym (from.is ∙ ap (λ t. row_of t from.document) own.0))
                (are.own from.document (subst (λ (x : Registry). Contains x.documents from.document) own.1 from.inside))
            | inr other ↦
                are.others r (subst (Contains (rows_of ks)) (sym from.is) (in_rows ks from.keyed from.document distinct up other.0 from.inside))
                (λ e. other.1 (ap (λ (x : Row). x.tenant) (sym from.is) ∙ e))
          ]

      under : (r : Row) → Contains rows r → Contains (rows_of ls) r
      under r c = elim (are.back r c) [
        | inl other ↦
            let from = from_rows ks r other.0 in
            subst (Contains (rows_of ls)) (sym from.is)
            (in_rows ls from.keyed from.document still all_up
            (other_stays ks key h from.keyed (λ e. other.1 (ap (λ (x : Row). x.tenant) from.is ∙ ap digest e)) from.among) from.inside)
        | inr own ↦
            let f = found ls key h (own_after ks key g h is) in
            subst (Contains (rows_of ls)) (ap (λ t. row_of t own.0) f.has_key ∙ sym own.1.1)
            (in_rows ls f.keyed own.0 still all_up f.among (subst (λ (x : Registry). Contains x.documents own.0) (sym f.has_registry) own.1.0))
      ]

  -- ---- a put
  pub put_rows : (d : Document) → rows_of (with_registry ks key (record g { documents = documents_with d g.documents })) ≡ with_row (row_of key d) (rows_of ks)
  put_rows d = changed (documents_with d g.documents) (with_row (row_of key d) (rows_of ks)) sorted (record {
    ascend = ascend_with (row_of key d) (rows_of ks) (rows_ascend ks);
    own = own;
    others = λ r c other. still_in (row_of key d) r (rows_of ks) (λ tie. other (sym (tied_rows (row_of key d) r tie).0)) c;
    back = λ r c. back r (put_or_other (row_of key d) r (rows_of ks) (rows_ascend ks) c);
  })
    where
      sorted : documents.Ascend (documents_with d g.documents)
      sorted = ascend_placed d g.documents (own_ascend ks key g up is)

      own_at : (e : Document) (b : Bool) → same_text d.canonical e.canonical ≡ b → Contains (documents_with d g.documents) e → (d ≡ e) ⊎ Contains g.documents e
          → Contains (with_row (row_of key d) (rows_of ks)) (row_of key e)
      own_at e true same c was =
          let one : d ≡ e = one_document (documents_with d g.documents) d e sorted (placed_itself d g.documents) c (same_text_is d.canonical e.canonical same) in
          subst (λ x. Contains (with_row (row_of key d) (rows_of ks)) (row_of key x)) one (put_in (row_of key d) (rows_of ks))
      own_at e false differ c (inl one) = subst (λ x. Contains (with_row (row_of key d) (rows_of ks)) (row_of key x)) one (put_in (row_of key d) (rows_of ks))
      own_at e false differ c (inr there) =
          still_in (row_of key d) (row_of key e) (rows_of ks)
          (λ tie. true≢false (sym ((bytes_decides d.canonical e.canonical).1 (tied_rows (row_of key d) (row_of key e) tie).1) ∙ differ)) (own_row e there)

      own : (e : Document) → Contains (documents_with d g.documents) e → Contains (with_row (row_of key d) (rows_of ks)) (row_of key e)
      own e c = own_at e (same_text d.canonical e.canonical) refl c (from_placed d e g.documents c)

      back_at : (r : Row) (b : Bool) → same_text r.tenant (digest key) ≡ b → Contains (rows_of ks) r → (row_cmp (row_of key d) r ≡ Equal → ⊥)
          → IsOfOther r ⊎ ((e : Document) × (Contains (documents_with d g.documents) e × (r ≡ row_of key e)))
      back_at r true same there untied =
          let own = own_document r there (same_text_is r.tenant (digest key) same) in
          inr (
            own.0,
            (
              in_placed d own.0 g.documents
                  (λ alike. untied (rows_tie (row_of key d) r (sym (ap (λ (x : Row). x.tenant) own.1.1)) (sym alike ∙ sym (ap (λ (x : Row). x.uri) own.1.1)))) own.1.0,
              own.1.1,
            ),
          )
      back_at r false differ there untied = inl (there, λ e. true≢false (sym ((bytes_decides r.tenant (digest key)).1 e) ∙ differ))

      back : (r : Row) → (row_of key d ≡ r) ⊎ (Contains (rows_of ks) r × (row_cmp (row_of key d) r ≡ Equal → ⊥))
          → IsOfOther r ⊎ ((e : Document) × (Contains (documents_with d g.documents) e × (r ≡ row_of key e)))
      back r (inl same) = inr (d, (placed_itself d g.documents, sym same))
      back r (inr other) = back_at r (same_text r.tenant (digest key)) refl other.0 other.1

  -- ---- a delete
  pub delete_rows : (uri : Text) → rows_of (with_registry ks key (record g { documents = others_of uri g.documents })) ≡ without_row (digest key) uri (rows_of ks)
  delete_rows uri = changed (others_of uri g.documents) (without_row (digest key) uri (rows_of ks)) sorted (record {
    ascend = ascend_part keeps (rows_of ks) (rows_ascend ks);
    own = λ d c.
        let there = from_filter others d g.documents c in
        in_filter keeps (row_of key d) (rows_of ks) (own_row d there.0) (second_out (same_text (digest key) (digest key)) (same_text uri d.canonical) there.1);
    others = λ r c other.
        in_filter keeps r (rows_of ks) c
        (first_out (same_text (digest key) r.tenant) (same_text uri r.uri) (λ e. other (sym (same_text_is (digest key) r.tenant e))));
    back = λ r c. let there = from_filter keeps r (rows_of ks) c in back r (same_text (digest key) r.tenant) refl there.0 there.1;
  })
    where
      keeps : Row → Bool
      keeps r = not (is_row_at (digest key) uri r)

      others : Document → Bool
      others d = not (same_text uri d.canonical)

      sorted : documents.Ascend (others_of uri g.documents)
      sorted = joined.ascend_part others g.documents (own_ascend ks key g up is)

      second_out : (a b : Bool) → not b ≡ true → not (a && b) ≡ true
      second_out true b e = e
      second_out false b e = refl

      first_out : (a b : Bool) → (a ≡ true → ⊥) → not (a && b) ≡ true
      first_out true b e = absurd (e refl)
      first_out false b e = refl

      second_kept : (a b : Bool) → a ≡ true → not (a && b) ≡ true → not b ≡ true
      second_kept true b e h = h
      second_kept false b e h = absurd (true≢false (sym e))

      back : (r : Row) (b : Bool) → same_text (digest key) r.tenant ≡ b → Contains (rows_of ks) r → keeps r ≡ true
          → IsOfOther r ⊎ ((e : Document) × (Contains (others_of uri g.documents) e × (r ≡ row_of key e)))
      back r true same there kept =
          let own = own_document r there (sym (same_text_is (digest key) r.tenant same)) in
          inr (
            own.0,
            (
              in_filter others own.0 g.documents own.1.0
                  (ap (λ (x : Row). not (same_text uri x.uri)) (sym own.1.1) ∙ second_kept (same_text (digest key) r.tenant) (same_text uri r.uri) same kept),
              own.1.1,
            ),
          )
      back r false differ there kept = inl (there, λ e. true≢false (sym ((bytes_decides (digest key) r.tenant).1 (sym e)) ∙ differ))

-- ---- several puts
-- one after the other
abbrev pub with_rows : List Row → List Row → List Row
with_rows [] rows = rows
with_rows (r ∷ rs) rows = with_rows rs (with_row r rows)

abbrev pub rows_of_documents : Text → List Document → List Row
rows_of_documents key [] = []
rows_of_documents key (d ∷ ds) = row_of key d ∷ rows_of_documents key ds

pub batch_rows : (ks : List KeyedRegistry) (key : Text) (g : Registry) (es : List Document) → HaveDistinctDigests ks → AllAscend ks → registry_of ks key ≡ Some g
    → rows_of (with_registry ks key (record g { documents = documents_with_all es g.documents })) ≡ with_rows (rows_of_documents key es) (rows_of ks)
batch_rows ks key g [] distinct up is = ap rows_of (with_own ks key g is)
batch_rows ks key g (e ∷ es) distinct up is =
    let h : Registry = record g { documents = documents_with e g.documents } in
    ap rows_of (sym (with_last ks key h (record g { documents = documents_with_all es (documents_with e g.documents) })))
    ∙ batch_rows (with_registry ks key h) key h es (still_distinct ks key h distinct)
    (all_ascend_with ks key g h distinct is up (ascend_placed e g.documents (own_ascend ks key g up is))) (own_after ks key g h is)
    ∙ ap (with_rows (rows_of_documents key es)) (put_rows ks key g distinct up is e)

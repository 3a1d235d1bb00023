-- The rows of registries.
use Rattle.std.proofs.Common.{◌≡◌, ◌⊎◌, List, [], ◌∷◌, Contains, Equal, Less, map, sym, ◌∙◌, subst, inl, inr, true≢false}
use Rattle.std.proofs.lemmas.Bool.{or_parts}
use Rattle.std.proofs.lemmas.Cmp.{nat_list_cmp_total}
use Rattle.std.specs.Cmp.Lexicographic.{slice_cmp, bytes_decides}
use Rattle.std.specs.List.{list_any}
use Rattle.std.specs.List.Sorted.{IsStrictlySortedBy}
use Rattle.std.specs.Ordering.{nat_cmp}
use Rattle.definitions.specs.Documents as documents
use Rattle.definitions.specs.Lists.{has_repeat}
use Rattle.definitions.specs.Schemas.{Document}
use Rattle.definitions.specs.Services.{KeyedRegistry}
use Rattle.definitions.specs.Values.{Text, same_text}
use Rattle.definition_laws.proofs.JoinedDocuments.{tie_at}
use Rattle.definition_laws.proofs.Membership.{nothing_in, is_first, is_later, first_or_later, in_map}
use Rattle.definition_laws.proofs.PlacedDocuments.{key_of}
use Rattle.definition_laws.proofs.Placing.{first_below, tail_ascending}
use Rattle.definition_laws.proofs.Repeats.{none_of}
use Rattle.stored_rows.specs.Restoring.{HaveDistinctDigests}
use Rattle.stored_rows.specs.Rows.{Ascend, Row, digest, row_of, rows_of, rows_with}
use Rattle.stored_rows.proofs.RowOrder.{ascend_with, put_in, still_in, tied_rows, was_in}

-- ---- they ascend
ascend_rows_with : (key : Text) (ds : List Document) (rows : List Row) → Ascend rows → Ascend (rows_with key ds rows)
ascend_rows_with key [] rows up = up
ascend_rows_with key (d ∷ ds) rows up = ascend_with (row_of key d) (rows_with key ds rows) (ascend_rows_with key ds rows up)

no_rows_ascend : Ascend []
unfolding IsStrictlySortedBy
no_rows_ascend = tt

pub rows_ascend : (ks : List KeyedRegistry) → Ascend (rows_of ks)
rows_ascend [] = no_rows_ascend
rows_ascend (k ∷ ks) = ascend_rows_with k.key k.registry.documents (rows_of ks) (rows_ascend ks)

-- ---- each is a document's
-- of this document of this registry
pub record IsRowOf (ks : List KeyedRegistry) (r : Row) : Type 0 where
  pub keyed : KeyedRegistry
  pub document : Document
  pub among : Contains ks keyed
  pub inside : Contains keyed.registry.documents document
  pub is : r ≡ row_of keyed.key document

abbrev IsNewOr : Text → List Document → List Row → Row → Type 0
IsNewOr key ds rows r = ((d : Document) × (Contains ds d × (r ≡ row_of key d))) ⊎ Contains rows r

from_rows_with : (key : Text) (ds : List Document) (rows : List Row) (r : Row) → Contains (rows_with key ds rows) r → IsNewOr key ds rows r
from_rows_with key [] rows r c = inr c
from_rows_with key (d ∷ ds) rows r c = elim (was_in (row_of key d) r (rows_with key ds rows) c) [
  | inl same ↦ inl (d, (is_first d ds, sym same))
  | inr before ↦ elim (from_rows_with key ds rows r before) [
    | inl new ↦ inl (new.0, (is_later d new.0 ds new.1.0, new.1.1))
    | inr old ↦ inr old
  ]
]

pub from_rows : (ks : List KeyedRegistry) (r : Row) → Contains (rows_of ks) r → IsRowOf ks r
from_rows [] r c = absurd (nothing_in r c)
from_rows (k ∷ ks) r c = elim (from_rows_with k.key k.registry.documents (rows_of ks) r c) [
  | inl new ↦ record { keyed = k; document = new.0; among = is_first k ks; inside = new.1.0; is = new.1.1 }
  | inr old ↦
      let rest = from_rows ks r old in
      record { keyed = rest.keyed; document = rest.document; among = is_later k rest.keyed ks rest.among; inside = rest.inside; is = rest.is }
]

-- ---- each document has its row
-- every registry's documents are in byte order of their URIs
abbrev pub AllAscend : List KeyedRegistry → Type 0
AllAscend ks = (k : KeyedRegistry) → Contains ks k → documents.Ascend k.registry.documents

in_rows_with_rest : (key : Text) (ds : List Document) (rows : List Row) (r : Row) → (r.tenant ≡ digest key → ⊥) → Contains rows r → Contains (rows_with key ds rows) r
in_rows_with_rest key [] rows r other c = c
in_rows_with_rest key (d ∷ ds) rows r other c =
    still_in (row_of key d) r (rows_with key ds rows) (λ tie. other (sym (tied_rows (row_of key d) r tie).0)) (in_rows_with_rest key ds rows r other c)

in_rows_with : (key : Text) (ds : List Document) (rows : List Row) (d : Document) → documents.Ascend ds → Contains ds d → Contains (rows_with key ds rows) (row_of key d)
in_rows_with key [] rows d up c = absurd (nothing_in d c)
in_rows_with key (e ∷ ds) rows d up c = elim (first_or_later e d ds c) [
  | inl same ↦ subst (λ x. Contains (rows_with key (e ∷ ds) rows) (row_of key x)) same (put_in (row_of key e) (rows_with key ds rows))
  | inr later ↦
      still_in (row_of key e) (row_of key d) (rows_with key ds rows)
      (λ tie. unlike (sym (first_below (slice_cmp nat_cmp) nat_list_cmp_total key_of e d ds up later) ∙ tie_at e.canonical d.canonical (tied_rows (row_of key e) (row_of key d) tie).1))
      (in_rows_with key ds rows d (tail_ascending (slice_cmp nat_cmp) nat_list_cmp_total key_of e ds up) later)
]
  where
    unlike : Less ≡ Equal → ⊥
    unlike e = cc

-- the first key's digest is none of the others'
pub first_digest : (k l : KeyedRegistry) (ks : List KeyedRegistry) → HaveDistinctDigests (k ∷ ks) → Contains ks l → digest k.key ≡ digest l.key → ⊥
first_digest k l ks distinct c same =
    let parts = or_parts (list_any (same_text (digest k.key)) (map (λ m. digest m.key) ks)) (has_repeat same_text (map (λ m. digest m.key) ks)) distinct in
    true≢false (sym ((bytes_decides (digest k.key) (digest l.key)).1 same)
    ∙ none_of (same_text (digest k.key)) (digest l.key) (map (λ m. digest m.key) ks) parts.0 (in_map (λ (m : KeyedRegistry). digest m.key) l ks c))

pub later_digests : (k : KeyedRegistry) (ks : List KeyedRegistry) → HaveDistinctDigests (k ∷ ks) → HaveDistinctDigests ks
later_digests k ks distinct = (or_parts (list_any (same_text (digest k.key)) (map (λ m. digest m.key) ks)) (has_repeat same_text (map (λ m. digest m.key) ks)) distinct).1

pub in_rows : (ks : List KeyedRegistry) (k : KeyedRegistry) (d : Document) → HaveDistinctDigests ks → AllAscend ks → Contains ks k → Contains k.registry.documents d
    → Contains (rows_of ks) (row_of k.key d)
in_rows [] k d distinct up c inside = absurd (nothing_in k c)
in_rows (l ∷ ks) k d distinct up c inside = elim (first_or_later l k ks c) [
  | inl same ↦
      subst (λ m. Contains (rows_of (l ∷ ks)) (row_of m.key d)) same
      (in_rows_with l.key l.registry.documents (rows_of ks) d (up l (is_first l ks)) (subst (λ (m : KeyedRegistry). Contains m.registry.documents d) (sym same) inside))
  | inr later ↦
      in_rows_with_rest l.key l.registry.documents (rows_of ks) (row_of k.key d) (λ e. first_digest l k ks distinct later (sym e))
      (in_rows ks k d (later_digests l ks distinct) (λ m there. up m (is_later l m ks there)) later inside)
]

-- The documents of two sources that share no resource are sound together.
use Rattle.std.proofs.Common.{◌≡◌, ◌⊎◌, false, List, [], ◌∷◌, None, Contains, sym, ◌∙◌, subst, inl, inr, true≢false}
use Rattle.std.proofs.lemmas.Bool.{false_from_ne_true, or_parts}
use Rattle.std.proofs.lemmas.Cmp.{nat_list_cmp_total}
use Rattle.std.specs.Cmp.Lexicographic.{slice_cmp}
use Rattle.std.specs.List.{list_any}
use Rattle.std.specs.Ordering.{nat_cmp}
use Rattle.definitions.specs.Documents.{documents_of_both, documents_with, resources_of, resource_uris_of, AreSound}
use Rattle.definitions.specs.Lists.{has_repeat}
use Rattle.definitions.specs.Reach.{holds_resource}
use Rattle.definitions.specs.Scanning.{scan_fault, scan_faults}
use Rattle.definitions.specs.Schemas.{Document, document_from, schemas_of}
use Rattle.definitions.specs.Values.{Text, same_text}
use Rattle.lemmas.proofs.Texts.{same_text_itself}
use Rattle.definition_laws.proofs.AcceptedDocuments.{first_none, scanned}
use Rattle.definition_laws.proofs.JoinedDocuments.{ascend_placed}
use Rattle.definition_laws.proofs.Membership.{is_first, is_later}
use Rattle.definition_laws.proofs.PlacedDocuments.{key_of, as_inserted, from_placed}
use Rattle.definition_laws.proofs.Placing.{distinct, tail_ascending}
use Rattle.definition_laws.proofs.Repeats.{any_none, cut, in_flat_map, none_of}
use Rattle.definition_laws.proofs.Resources.{apart_from_held, root_opens, same_text-unlike}
use Rattle.linker.specs.Sources.{shares_resource}

-- ---- resources that are not shared
-- none of the document's is held by the other
abbrev pub HoldsNoneOf : Document → Document → Type 0
HoldsNoneOf d e = (u : Text) → Contains (resources_of d) u → holds_resource u e ≡ false

pub unshared_holds_none : (ds : List Document) (d e : Document) → shares_resource ds d ≡ false → Contains ds e → HoldsNoneOf d e
unfolding shares_resource
unshared_holds_none ds d e none c u own =
    none_of (holds_resource u) e ds (none_of (λ v. list_any (holds_resource v) ds) u (resources_of d) none own) c

pub shares_none : (ds : List Document) (d : Document) → ((e : Document) → Contains ds e → HoldsNoneOf d e) → shares_resource ds d ≡ false
unfolding shares_resource
shares_none ds d h = any_none (λ u. list_any (holds_resource u) ds) (resources_of d) (λ u c. any_none (holds_resource u) ds (λ e k. h e k u c))

-- ---- the first of sound documents, and the others
first_unshared : (l : Document) (ls : List Document) → AreSound (l ∷ ls) → (e : Document) → Contains ls e → HoldsNoneOf l e
first_unshared l ls sound e c u own =
    false_from_ne_true (holds_resource u e) (λ held.
    true≢false (sym (same_text_itself u) ∙ (cut same_text (resources_of l) (resource_uris_of ls) sound.distinct).apart u u own
    (in_flat_map resources_of e u ls c (root_opens (schemas_of e.base e.value) u held))))

others_sound : (l : Document) (ls : List Document) → AreSound (l ∷ ls) → AreSound ls
others_sound l ls sound = record {
  ascend = tail_ascending (slice_cmp nat_cmp) nat_list_cmp_total key_of l ls sound.ascend;
  distinct = (cut same_text (resources_of l) (resource_uris_of ls) sound.distinct).behind;
  made = λ e c. sound.made e (is_later l e ls c);
  faultless = λ e c. sound.faultless e (is_later l e ls c);
}

-- ---- a document among others
sound_with : (ds : List Document) (d : Document) → AreSound ds → d ≡ document_from d.base d.value → scan_fault d.base d.value ≡ None → shares_resource ds d ≡ false
    → AreSound (documents_with d ds)
sound_with ds d sound made fine free = record {
  ascend = ascend_placed d ds sound.ascend;
  distinct = subst (λ es. has_repeat same_text (resource_uris_of es) ≡ false) (as_inserted d ds)
      (distinct (slice_cmp nat_cmp) nat_list_cmp_total key_of same_text same_text-unlike resources_of d ds sound.ascend
      (scanned d (first_none (scan_faults d.base d.value) fine)).uris sound.distinct
      (λ e c other. apart_from_held d e (unshared_holds_none ds d e free c)));
  made = λ e c. elim (from_placed d e ds c) [
    | inl same ↦ subst (λ (x : Document). x ≡ document_from x.base x.value) same made
    | inr there ↦ sound.made e there
  ];
  faultless = λ e c. elim (from_placed d e ds c) [
    | inl same ↦ subst (λ (x : Document). scan_fault x.base x.value ≡ None) same fine
    | inr there ↦ sound.faultless e there
  ];
}

pub from_joined : (ls ds : List Document) (x : Document) → Contains (documents_of_both ls ds) x → Contains ls x ⊎ Contains ds x
from_joined [] ds x c = inr c
from_joined (l ∷ ls) ds x c = elim (from_placed l x (documents_of_both ls ds) c) [
  | inl same ↦ inl (subst (Contains (l ∷ ls)) same (is_first l ls))
  | inr there ↦ elim (from_joined ls ds x there) [
    | inl later ↦ inl (is_later l x ls later)
    | inr other ↦ inr other
  ]
]

-- ---- both together
pub together_sound : (ds es : List Document) → AreSound ds → AreSound es → list_any (shares_resource ds) es ≡ false → AreSound (documents_of_both es ds)
together_sound ds [] first second apart = first
together_sound ds (l ∷ ls) first second apart =
    let parts = or_parts (shares_resource ds l) (list_any (shares_resource ds) ls) apart in
    sound_with (documents_of_both ls ds) l (together_sound ds ls first (others_sound l ls second) parts.1) (second.made l (is_first l ls)) (second.faultless l (is_first l ls))
    (shares_none (documents_of_both ls ds) l (λ e c. elim (from_joined ls ds e c) [
      | inl own ↦ first_unshared l ls second e own
      | inr other ↦ unshared_holds_none ds l e parts.0 other
    ]))

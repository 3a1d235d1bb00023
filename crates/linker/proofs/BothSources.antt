-- What holds a resource among the documents of two sources that share none.
use Rattle.std.proofs.Common.{◌≡◌, ◌≢◌, ◌⊎◌, false, List, [], ◌∷◌, Option, Some, None, Contains, map, find, sym, ap, ◌∙◌, subst, inl, inr, true≢false}
use Rattle.std.proofs.lemmas.Bool.{false_from_ne_true, or_parts}
use Rattle.std.specs.List.{list_any}
use Rattle.definitions.specs.Documents.{documents_of_both, documents_with, resource_uris_of, AreSound}
use Rattle.definitions.specs.Lists.{has_repeat}
use Rattle.definitions.specs.Reach.{holds_resource}
use Rattle.definitions.specs.Schemas.{Document, document_from, schemas_of}
use Rattle.definitions.specs.Values.{Text, same_text}
use Rattle.lemmas.proofs.Texts.{same_text_itself}
use Rattle.definition_laws.proofs.JoinedDocuments.{first_apart, is_unequal}
use Rattle.definition_laws.proofs.Membership.{nothing_in, is_first, is_later, first_or_later, found_none, found_there}
use Rattle.definition_laws.proofs.PlacedDocuments.{in_placed, key_of, placed_itself}
use Rattle.definition_laws.proofs.Repeats.{any_none, none_of}
use Rattle.definition_laws.proofs.Resources.{one_document, opened_is_root, root_opens}
use Rattle.linker.specs.Sources.{shares_resource}
use Rattle.linker.specs.Together.{HoldsNoneOf, from_joined, shares_none, together_sound, unshared_holds_none}
use Rattle.linker.proofs.CanonicalHolders.{first_holder, own_resource}
use Rattle.linker.proofs.Positions.{ascend_distinct}
use Rattle.linker.proofs.Tables.{no_holder}

-- ---- where no canonical URI is in both
abbrev pub NameOthers : List Document → List Document → Type 0
NameOthers ls ds = (l e : Document) → Contains ls l → Contains ds e → e.canonical ≢ l.canonical

pub in_joined : (ls ds : List Document) (x : Document) → has_repeat same_text (map key_of ls) ≡ false → NameOthers ls ds → Contains ls x ⊎ Contains ds x → Contains (documents_of_both ls ds) x
in_joined [] ds x none apart (inl own) = absurd (nothing_in x own)
in_joined [] ds x none apart (inr there) = there
in_joined (l ∷ ls) ds x none apart (inl own) =
    let parts = or_parts (list_any (same_text l.canonical) (map key_of ls)) (has_repeat same_text (map key_of ls)) none in
    elim (first_or_later l x ls own) [
      | inl same ↦ subst (Contains (documents_with l (documents_of_both ls ds))) same (placed_itself l (documents_of_both ls ds))
      | inr later ↦
          in_placed l x (documents_of_both ls ds) (λ same. is_unequal l.canonical x (first_apart l ls parts.0 x later) (sym same))
          (in_joined ls ds x parts.1 (λ m e c k. apart m e (is_later l m ls c) k) (inl later))
    ]
in_joined (l ∷ ls) ds x none apart (inr there) =
    let parts = or_parts (list_any (same_text l.canonical) (map key_of ls)) (has_repeat same_text (map key_of ls)) none in
    in_placed l x (documents_of_both ls ds) (apart l x (is_first l ls) there)
    (in_joined ls ds x parts.1 (λ m e c k. apart m e (is_later l m ls c) k) (inr there))

-- and no resource stands twice in both together, none is shared
pub unshared_in_both : (ls ds : List Document) → has_repeat same_text (map key_of ls) ≡ false → NameOthers ls ds → has_repeat same_text (resource_uris_of (documents_of_both ls ds)) ≡ false
    → list_any (shares_resource ds) ls ≡ false
unshared_in_both ls ds none apart distinct =
    any_none (shares_resource ds) ls (λ l c. shares_none ds l (λ e k u own. false_from_ne_true (holds_resource u e) (λ held.
    apart l e c k (ap key_of (sym (one_document (documents_of_both ls ds) u l e distinct (in_joined ls ds l none apart (inl c)) (in_joined ls ds e none apart (inr k))
    (opened_is_root (schemas_of l.base l.value) u u own (same_text_itself u)) held))))))

-- ---- the documents of sources
otherwise_named : (l x : Document) → l ≡ document_from l.base l.value → x ≡ document_from x.base x.value → HoldsNoneOf l x → x.canonical ≢ l.canonical
otherwise_named l x made other none same =
    true≢false (sym (ap (λ u. holds_resource u x) (sym same) ∙ own_resource x other) ∙ none l.canonical (root_opens (schemas_of l.base l.value) l.canonical (own_resource l made)))

in_both : (ds es : List Document) (x : Document) → AreSound ds → AreSound es → list_any (shares_resource ds) es ≡ false → Contains es x ⊎ Contains ds x → Contains (documents_of_both es ds) x
in_both ds es x first second apart there =
    in_joined es ds x (ascend_distinct es second.ascend)
    (λ l e c k. otherwise_named l e (second.made l c) (first.made e k) (unshared_holds_none ds l e (none_of (shares_resource ds) l es apart c) k)) there

pub found_in_first : (ds es : List Document) (uri : Text) (d : Document) → AreSound ds → AreSound es → list_any (shares_resource ds) es ≡ false
    → find (holds_resource uri) ds ≡ Some d → find (holds_resource uri) (documents_of_both es ds) ≡ Some d
found_in_first ds es uri d first second apart e =
    let found = found_there (holds_resource uri) ds d e in
    first_holder (documents_of_both es ds) uri d (together_sound ds es first second apart).distinct (in_both ds es d first second apart (inr found.0)) found.1

pub found_in_second : (ds es : List Document) (uri : Text) (o : Option Document) → AreSound ds → AreSound es → list_any (shares_resource ds) es ≡ false
    → find (holds_resource uri) ds ≡ None → find (holds_resource uri) es ≡ o → find (holds_resource uri) (documents_of_both es ds) ≡ o
found_in_second ds es uri (Some d) first second apart none e =
    let found = found_there (holds_resource uri) es d e in
    first_holder (documents_of_both es ds) uri d (together_sound ds es first second apart).distinct (in_both ds es d first second apart (inl found.0)) found.1
found_in_second ds es uri None first second apart none e =
    found_none (holds_resource uri) (documents_of_both es ds) (λ x c. elim (from_joined es ds x c) [
      | inl own ↦ no_holder es uri e x own
      | inr there ↦ no_holder ds uri none x there
    ])

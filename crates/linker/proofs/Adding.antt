-- A document that is put among others with which it shares no resource.
use Rattle.std.proofs.Common.{◌≡◌, ◌≢◌, Bool, true, false, ◌||◌, cond, not, List, [], ◌∷◌, find, is_some, is_none, Option, Some, None, Result, Ok, Err, IfOk, OnErr, ◌⊎◌, Contains, Ordering, Less, Equal, Greater, sym, refl, ap, ◌∙◌, subst, inl, inr, true≢false}
use Rattle.std.proofs.lemmas.Bool.{and_from, and_parts}
use Rattle.std.proofs.lemmas.Cmp.{nat_list_cmp_total}
use Rattle.std.specs.Cmp.Lexicographic.{slice_cmp, bytes_decides}
use Rattle.std.specs.List.{list_any, list_all}
use Rattle.std.specs.Ordering.{nat_cmp, match_ordering}
use Rattle.definitions.specs.Values.{same_text}
use Rattle.definitions.specs.Lists.{has_repeat}
use Rattle.definitions.specs.Schemas.{Document, document_from, schemas_of}
use Rattle.definitions.specs.Scanning.{scan_fault, scan_faults}
use Rattle.definitions.specs.Reach.{holds_resource}
use Rattle.definitions.specs.Documents.{document_of, documents_with, resources_of, resource_uris_of, Ascend, is_faultless}
use Rattle.definition_laws.proofs.AcceptedDocuments.{first_none, scanned}
use Rattle.definition_laws.proofs.Membership.{any_at, found_there}
use Rattle.definition_laws.proofs.PlacedDocuments.{key_of, as_inserted}
use Rattle.definition_laws.proofs.Placing.{ascending, distinct}
use Rattle.definition_laws.proofs.Resources.{apart_from_held, same_text-unlike, root_opens}
use Rattle.definition_laws.proofs.StoredDocuments.{holds_itself}
use Rattle.linker.specs.Sources.{shares_resource}
use Rattle.linker.specs.Together.{unshared_holds_none}

-- ---- tests of images
found_at : {X : Type 0} (p : X → Bool) (x : X) (xs : List X) (b : Bool) → is_some (find p xs) ≡ list_any p xs → is_some (cond b (Some x) (find p xs)) ≡ (b || list_any p xs)
found_at p x xs true e = refl
found_at p x xs false e = e

pub is_some-find : {X : Type 0} (p : X → Bool) (xs : List X) → is_some (find p xs) ≡ list_any p xs
is_some-find p [] = refl
is_some-find p (x ∷ xs) = found_at p x xs (p x) (is_some-find p xs)

-- ---- an element that is put in
all_placed_at : (p : Document → Bool) (d e : Document) (es : List Document) (o : Ordering) → p d ≡ true → p e ≡ true → list_all p es ≡ true → list_all p (documents_with d es) ≡ true
    → list_all p (match_ordering o (d ∷ e ∷ es) (d ∷ es) (e ∷ documents_with d es)) ≡ true
all_placed_at p d e es Less here there rest more = and_from (p d) (list_all p (e ∷ es)) here (and_from (p e) (list_all p es) there rest)
all_placed_at p d e es Equal here there rest more = and_from (p d) (list_all p es) here rest
all_placed_at p d e es Greater here there rest more = and_from (p e) (list_all p (documents_with d es)) there more

all_placed : (p : Document → Bool) (d : Document) (ds : List Document) → p d ≡ true → list_all p ds ≡ true → list_all p (documents_with d ds) ≡ true
all_placed p d [] here rest = and_from (p d) true here refl
all_placed p d (e ∷ es) here rest =
    let parts = and_parts (p e) (list_all p es) rest in
    all_placed_at p d e es (slice_cmp nat_cmp d.canonical e.canonical) here parts.0 parts.1 (all_placed p d es here parts.1)

pub record IsSoundWith (d : Document) (ds : List Document) : Type 0 where
  pub ascend : Ascend (documents_with d ds)
  pub distinct : has_repeat same_text (resource_uris_of (documents_with d ds)) ≡ false
  pub faultless : list_all is_faultless (documents_with d ds) ≡ true

pub added : (ds : List Document) (d : Document) → Ascend ds → has_repeat same_text (resource_uris_of ds) ≡ false → list_all is_faultless ds ≡ true
    → scan_fault d.base d.value ≡ None → shares_resource ds d ≡ false → IsSoundWith d ds
added ds d ascend apart faultless fine free = record {
  ascend = subst Ascend (as_inserted d ds) (ascending (slice_cmp nat_cmp) nat_list_cmp_total key_of d ds ascend);
  distinct = subst (λ es. has_repeat same_text (resource_uris_of es) ≡ false) (as_inserted d ds)
      (distinct (slice_cmp nat_cmp) nat_list_cmp_total key_of same_text same_text-unlike resources_of d ds ascend
      (scanned d (first_none (scan_faults d.base d.value) fine)).uris apart
      (λ e c other. apart_from_held d e (unshared_holds_none ds d e free c)));
  faultless = all_placed is_faultless d ds (ap is_none fine) faultless;
}

-- the document's own canonical URI is that of one of its resources
pub shares_its_own : (ds : List Document) (d e : Document) → holds_resource d.canonical d ≡ true → holds_resource e.canonical e ≡ true → Contains ds e → e.canonical ≡ d.canonical
    → shares_resource ds d ≡ true
unfolding shares_resource
shares_its_own ds d e own holds c same =
    any_at (λ u. list_any (holds_resource u) ds) d.canonical (resources_of d) (root_opens (schemas_of d.base d.value) d.canonical own)
    (any_at (holds_resource d.canonical) e ds c (subst (λ u. holds_resource u e ≡ true) same holds))

pub kept_or_put : {E : Type 0} (r : Result Bool E) (old new : List Document) (d : Document) → IfOk r (λ put. new ≡ cond put (documents_with d old) old) → OnErr r (new ≡ old)
    → (new ≡ old) ⊎ (new ≡ documents_with d old)
kept_or_put (Ok true) old new d put kept = inr put
kept_or_put (Ok false) old new d put kept = inl put
kept_or_put (Err e) old new d put kept = inl kept

-- what a list of documents keeps
pub record IsSoundList (ds : List Document) : Type 0 where
  pub ascend : Ascend ds
  pub distinct : has_repeat same_text (resource_uris_of ds) ≡ false
  pub faultless : list_all is_faultless ds ≡ true

pub sound_after : (old new : List Document) (d : Document) → IsSoundList old → scan_fault d.base d.value ≡ None → shares_resource old d ≡ false → (new ≡ old) ⊎ (new ≡ documents_with d old) → IsSoundList new
sound_after old new d sound fine free way = elim way [
  | inl same ↦ subst IsSoundList (sym same) sound
  | inr put ↦
      let with_it = added old d sound.ascend sound.distinct sound.faultless fine free in
      subst IsSoundList (sym put) (record { ascend = with_it.ascend; distinct = with_it.distinct; faultless = with_it.faultless })
]

-- where no resource is shared, none has the canonical URI
pub unnamed : (ds : List Document) (d : Document) → ((e : Document) → Contains ds e → e ≡ document_from e.base e.value) → holds_resource d.canonical d ≡ true → shares_resource ds d ≡ false
    → (e : Document) → Contains ds e → e.canonical ≢ d.canonical
unnamed ds d made own free e c same =
    true≢false (sym (shares_its_own ds d e own (subst (λ (x : Document). holds_resource x.canonical x ≡ true) (sym (made e c)) (holds_itself e.base e.value)) c same) ∙ free)

unfound_at : (ds : List Document) (d : Document) (o : Option Document) → document_of ds d.canonical ≡ o → ((e : Document) → Contains ds e → e.canonical ≢ d.canonical) → is_none o ≡ true
unfound_at ds d None e other = refl
unfound_at ds d (Some found) e other =
    let there = found_there (λ (x : Document). same_text d.canonical x.canonical) ds found e in
    absurd (other found there.0 (sym ((bytes_decides d.canonical found.canonical).0 there.1)))

pub unfound : (ds : List Document) (d : Document) → ((e : Document) → Contains ds e → e ≡ document_from e.base e.value) → holds_resource d.canonical d ≡ true → shares_resource ds d ≡ false
    → is_none (document_of ds d.canonical) ≡ not (shares_resource ds d)
unfound ds d made own free = unfound_at ds d (document_of ds d.canonical) refl (unnamed ds d made own free) ∙ ap not (sym free)

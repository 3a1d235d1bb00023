-- Documents of files, and who holds a resource.
use Rattle.std.proofs.Common.{◌≡◌, ◌∙◌, ◌++◌, ◌∷◌, [], List, Bool, false, not, None, Some, Ok, Err, Option, is_none, is_some, ap, sym, refl, option_map, if◌then◌else◌}
use Rattle.std.proofs.lemmas.List.Elements.{filter-append}
use Rattle.std.specs.List.{list_any}
use Rattle.definition_laws.proofs.Resources.{table_uris}
use Rattle.definitions.specs.Documents.{documents_with, resources_of}
use Rattle.definitions.specs.Faults.{taken}
use Rattle.checks.specs.Judgements.{unless_fault}
use Rattle.definitions.specs.Lists.{has_repeat}
use Rattle.definitions.specs.Reach.{holds_resource}
use Rattle.definitions.specs.Scanning.{resource_uris}
use Rattle.definitions.specs.Schemas.{Document, table_of}
use Rattle.definitions.specs.Targets.{target}
use Rattle.definitions.specs.Values.{Text, same_text}
use Rattle.linker.proofs.Adding.{is_some-find}
use Rattle.linker.specs.Sources.{shares_resource}
use Rattle.file_checks.specs.FileSources.{file_documents}
use Rattle.file_checks.specs.FileTexts.{apart_from, dangling_among, is_held, shared_uri}
use Rattle.file_checks.specs.declared.documents.FileDocuments.{FileDocuments}

pub distinct_documents : (d : FileDocuments) → has_repeat same_text (resource_uris (table_of (file_documents d))) ≡ false
distinct_documents d = ap (has_repeat same_text) (table_uris (file_documents d)) ∙ d.source.distinct

-- ---- a document that shares no resource
same_any : {X : Type 0} (p q : X → Bool) → ((x : X) → p x ≡ q x) → (xs : List X) → list_any p xs ≡ list_any q xs
same_any p q same [] = refl
same_any p q same (x ∷ xs) = rw (same x, same_any p q same xs) refl

pub unshared : (ds : List Document) (d : Document) → shared_uri ds d ≡ None → shares_resource ds d ≡ false
unfolding shares_resource
unshared ds d none =
    same_any (λ u. list_any (holds_resource u) ds) (is_held ds) (λ u. sym (is_some-find (holds_resource u) ds)) (resources_of d)
    ∙ sym (is_some-find (is_held ds) (resources_of d)) ∙ ap is_some none

-- ---- references one after the other
abbrev dangles : List Document → Text → Bool
dangles ds r = is_none (target (table_of ds) r)

pub one_more : (ds : List Document) (rs : List Text) (r : Text) → dangling_among ds (rs ++ r ∷ []) ≡ dangling_among ds rs ++ dangling_among ds (r ∷ [])
one_more ds rs r = filter-append (dangles ds) rs (r ∷ [])

one_is : (ds : List Document) (r : Text) (b : Bool) → b ≡ is_some (target (table_of ds) r) → dangling_among ds (r ∷ []) ≡ (if b then [] else r ∷ [])
one_is ds r b e = go (target (table_of ds) r) refl b e
  where
    go : (o : Option _) → target (table_of ds) r ≡ o → (b : Bool) → b ≡ is_some (target (table_of ds) r) → dangling_among ds (r ∷ []) ≡ (if b then [] else r ∷ [])
    go None w b e = rw (e, w) refl
    go (Some s) w b e = rw (e, w) refl

-- ---- a document that goes beside others, or not
pub is_apart : (ds : List Document) (d e : Document) (o : Option Text) → o ≡ shared_uri ds e → e ≡ d → o ≡ None → apart_from ds d ≡ Ok d
unfolding apart_from
is_apart ds d e o shared same none = ap (λ x. unless_fault (option_map taken x) (Ok d)) (ap (shared_uri ds) (sym same) ∙ sym shared ∙ none)

pub is_taken : (ds : List Document) (d e : Document) (o : Option Text) (uri : Text) → o ≡ shared_uri ds e → e ≡ d → o ≡ Some uri → apart_from ds d ≡ Err (taken uri)
unfolding apart_from
is_taken ds d e o uri shared same some = ap (λ x. unless_fault (option_map taken x) (Ok d)) (ap (shared_uri ds) (sym same) ∙ sym shared ∙ some)

pub is_added : (ds new : List Document) (d e f : Document) (o : Option Text) (added : Bool) → o ≡ shared_uri ds e → e ≡ d → o ≡ None → f ≡ d → added ≡ not (shares_resource ds f)
    → new ≡ (if added then documents_with f ds else ds) → new ≡ documents_with d ds
is_added ds new d e f o added shared same none own is_free is_new =
    let free : shares_resource ds f ≡ false = unshared ds f (ap (shared_uri ds) (own ∙ sym same) ∙ sym shared ∙ none) in
    is_new ∙ ap (λ b. if b then documents_with f ds else ds) (is_free ∙ ap not free) ∙ ap (λ x. documents_with x ds) own

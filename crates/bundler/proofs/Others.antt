-- The documents beside the root.
use Rattle.std.proofs.Common.{◌≡◌, ◌++◌, List, [], ◌∷◌, Bool, true, false, cond, not, Option, Some, None, Less, nat_cmp, codes, option_map, map, find, filter, refl, sym, ap, ap₂, subst, ◌∙◌, inl, inr, append-nil}
use Rattle.std.proofs.lemmas.Bool.{not-false, not-true}
use Rattle.std.proofs.lemmas.List.Elements.{filter-append}
use Rattle.std.proofs.lemmas.List.{map-append}
use Rattle.std.specs.Cmp.Lexicographic.{slice_cmp}
use Rattle.std.specs.List.{AllByRecursion}
use Rattle.std.specs.List.Sorted.{IsStrictlySortedBy}
use Rattle.definitions.specs.Values.{Text, Value, object, to_members, same_text}
use Rattle.definitions.specs.Schemas.{Document}
use Rattle.definitions.specs.Documents.{Ascend, canonicals, others_of}
use Rattle.definitions.specs.Reach.{least, lesser}
use Rattle.definitions.specs.Bundles.{with_member, under_its_uri, members_with_documents, defs_of, bundle_of}
use Rattle.definition_laws.proofs.Occurrences.{IsIn, found_in}
use Rattle.lemmas.proofs.Texts.{same_text_turned}
use Rattle.bundler.specs.Constituents.{bare_document}

-- ---- documents behind the first
above : (e d : Document) (ds : List Document) → AllByRecursion (λ n. slice_cmp nat_cmp e.canonical n ≡ Less) (canonicals ds) → IsIn d ds → slice_cmp nat_cmp e.canonical d.canonical ≡ Less
above e d [] h nowhere = absurd nowhere
above e d (c ∷ ds) h (inl same) = subst (λ x. slice_cmp nat_cmp e.canonical x.canonical ≡ Less) same h.0
above e d (c ∷ ds) h (inr later) = above e d ds h.1 later

-- ---- one document more
pub others_more : (uri : Text) (ds : List Document) (d : Document) (b : Bool) → same_text uri d.canonical ≡ b → others_of uri (ds ++ d ∷ []) ≡ others_of uri ds ++ cond b [] (d ∷ [])
others_more uri ds d true e = filter-append (λ c. not (same_text uri c.canonical)) ds (d ∷ []) ∙ ap (λ b. others_of uri ds ++ cond (not b) (d ∷ []) []) e
others_more uri ds d false e = filter-append (λ c. not (same_text uri c.canonical)) ds (d ∷ []) ∙ ap (λ b. others_of uri ds ++ cond (not b) (d ∷ []) []) e

pub value_is : (o : Option Value) (v w : Value) → Some v ≡ o → o ≡ Some w → v ≡ w
value_is o v w e h = cc

pub others_kept : (uri : Text) (ds : List Document) (d : Document) → same_text uri d.canonical ≡ false
    → map bare_document (others_of uri (ds ++ d ∷ [])) ≡ map bare_document (others_of uri ds) ++ bare_document d ∷ []
others_kept uri ds d e = ap (map bare_document) (others_more uri ds d false e) ∙ map-append bare_document (others_of uri ds) (d ∷ [])

pub others_left : (uri : Text) (ds : List Document) (d : Document) → same_text uri d.canonical ≡ true
    → map bare_document (others_of uri (ds ++ d ∷ [])) ≡ map bare_document (others_of uri ds)
others_left uri ds d e = ap (map bare_document) (others_more uri ds d true e ∙ append-nil (others_of uri ds))

-- ---- whether a text is the URI that was asked for
turned : (a b t u : Text) → a ≡ t → b ≡ u → same_text u t ≡ same_text a b
turned a b t u e f = same_text_turned u t ∙ ap₂ same_text (sym e) (sym f)

pub is_another : (a b t u : Text) → true ≡ not (same_text a b) → a ≡ t → b ≡ u → same_text u t ≡ false
is_another a b t u h e f = turned a b t u e f ∙ not-true (same_text a b) (sym h)

pub is_asked : (a b t u : Text) → false ≡ not (same_text a b) → a ≡ t → b ≡ u → same_text u t ≡ true
is_asked a b t u h e f = turned a b t u e f ∙ not-false (same_text a b) (sym h)

-- ---- a bundle is made of canonical URIs and values alone
pub bare_canonicals : (ds : List Document) → canonicals (map bare_document ds) ≡ canonicals ds
bare_canonicals [] = refl
bare_canonicals (d ∷ ds) = ap (λ us. d.canonical ∷ us) (bare_canonicals ds)

bare_embedded : (ds : List Document) (ms : List (Text × Value)) → members_with_documents (map bare_document ds) ms ≡ members_with_documents ds ms
bare_embedded [] ms = refl
bare_embedded (d ∷ ds) ms = ap (λ ns. members_with_documents (d ∷ []) ns) (bare_embedded ds ms)

pub bare_bundle : (root : Document) (ds : List Document) → bundle_of (bare_document root) (map bare_document ds) ≡ bundle_of root ds
bare_bundle root [] = refl
bare_bundle root (d ∷ ds) = ap (λ ms. with_member (codes "$defs") (object (to_members ms)) (under_its_uri root)) (bare_embedded (d ∷ ds) (defs_of root.value))

-- ---- the least clash is the first
lesser_first : (d : Document) (ds : List Document) (o : Option Document) → AllByRecursion (λ n. slice_cmp nat_cmp d.canonical n ≡ Less) (canonicals ds)
    → ((e : Document) → o ≡ Some e → IsIn e ds) → lesser d.canonical (option_map (λ e. e.canonical) o) ≡ d.canonical
lesser_first d ds None h inside = refl
lesser_first d ds (Some e) h inside = rw (above d e ds h (inside e refl)) refl

module _ (p : Text → Bool) where
  found_inside : (ds : List Document) (e : Document) → find (λ d. p d.canonical) ds ≡ Some e → IsIn e ds
  found_inside ds e f = found_in (λ d. p d.canonical) ds e f

  first_at : (d : Document) (ds : List Document) (b : Bool) → AllByRecursion (λ n. slice_cmp nat_cmp d.canonical n ≡ Less) (canonicals ds)
      → least (filter p (canonicals ds)) ≡ option_map (λ e. e.canonical) (find (λ e. p e.canonical) ds)
      → least (cond b (d.canonical ∷ filter p (canonicals ds)) (filter p (canonicals ds))) ≡ option_map (λ e. e.canonical) (cond b (Some d) (find (λ e. p e.canonical) ds))
  first_at d ds true h rest = ap Some (ap (lesser d.canonical) rest ∙ lesser_first d ds (find (λ e. p e.canonical) ds) h (λ e f. found_inside ds e f))
  first_at d ds false h rest = rest

  pub first_is_least : (ds : List Document) → Ascend ds → least (filter p (canonicals ds)) ≡ option_map (λ e. e.canonical) (find (λ e. p e.canonical) ds)
  unfolding IsStrictlySortedBy
  first_is_least [] sorted = refl
  first_is_least (d ∷ ds) sorted = first_at d ds (p d.canonical) sorted.0 (first_is_least ds sorted.1)

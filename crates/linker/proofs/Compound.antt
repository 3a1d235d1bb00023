-- Documents of several resources among others.
use Rattle.std.proofs.Common.{◌≡◌, ◌≢◌, ◌++◌, ℕ, Bool, true, false, cond, List, [], ◌∷◌, Contains, length, get_or, nat_lt, sym, refl, ap, ◌∙◌, subst, inl, inr, true≢false, arith, find, ◌&&◌, IfSome, Option, Some, None, option_map}
use Rattle.std.proofs.lemmas.Bool.{and_parts}
use Rattle.std.proofs.lemmas.List.Folds.{find-append}
use Rattle.std.proofs.lemmas.Option.{same_Some}
use Rattle.std.specs.Option.{option_or}
use Rattle.std.proofs.lemmas.List.Elements.{Contains-append_left, Contains-append_right, Contains-append_cases, Contains-get_or}
use Rattle.std.specs.Global.{Global}
use Rattle.std.specs.List.{list_any}
use Rattle.std.specs.declared.rc.Rc.{Rc}
use Rattle.definitions.specs.Values.{Text, same_text}
use Rattle.definitions.specs.Schemas.{Document, document_from}
use Rattle.definitions.specs.Reach.{holds_resource}
use Rattle.definitions.specs.Lists.{has_repeat}
use Rattle.definitions.specs.Documents.{AreSound, documents_with, resources_of, resource_uris_of}
use Rattle.lemmas.proofs.Booleans.{same_truth}
use Rattle.definition_laws.proofs.Membership.{nothing_in, is_first, first_or_later, any_at, any_where, found_some, found_there}
use Rattle.definition_laws.proofs.Resources.{one_document}
use Rattle.definition_laws.proofs.PlacedDocuments.{from_placed, in_placed, placed_itself}
use Rattle.schema_scan.specs.declared.compiled.Compiled.{Compiled}
use Rattle.linker.specs.Positions.{StandsAt, IsGap}
use Rattle.linker.specs.CompoundDocuments.{compound_documents}
use Rattle.linker.specs.SharedDocuments.{shared_documents}
use Rattle.linker.specs.declared.compound_documents.CompoundDocuments.{CompoundDocuments}
use Rattle.linker.specs.SoundLists.{shared_made}
use Rattle.linker.specs.Sources.{embeds}
use Rattle.linker.specs.Visits.{AreCompound, EmbedAlike, IsPart, with_compound}
use Rattle.linker.proofs.CanonicalHolders.{embedded_at, own_resource}

nothing_found : {X : Type 0} {x : X} → None ≡ Some x → ⊥
nothing_found e = cc

-- ---- they are known from none on
pub none_compound : AreCompound [] []
none_compound = record { inside = λ d c. c; each = λ d c several. c }

pub compound_placed : (ds cs : List Document) (d : Document) → AreCompound ds cs → ((e : Document) → Contains ds e → e.canonical ≢ d.canonical)
    → AreCompound (documents_with d ds) (with_compound d cs)
unfolding with_compound
compound_placed ds cs d known other = by (nat_lt 1 (length (resources_of d))) refl
  where
    by : (b : Bool) → nat_lt 1 (length (resources_of d)) ≡ b → AreCompound (documents_with d ds) (cond b (cs ++ d ∷ []) cs)
    by true several = record {
      inside = λ e c. elim (Contains-append_cases cs (d ∷ []) e c) [
        | inl before ↦ in_placed d e ds (other e (known.inside e before)) (known.inside e before)
        | inr last ↦ elim (first_or_later d e [] last) [
          | inl same ↦ subst (Contains (documents_with d ds)) same (placed_itself d ds)
          | inr none ↦ absurd (nothing_in e none)
        ]
      ];
      each = λ e c has. elim (from_placed d e ds c) [
        | inl same ↦ Contains-append_right cs (d ∷ []) e (subst (Contains (d ∷ [])) same (is_first d []))
        | inr there ↦ Contains-append_left cs (d ∷ []) e (known.each e there has)
      ];
    }
    by false few = record {
      inside = λ e c. in_placed d e ds (other e (known.inside e c)) (known.inside e c);
      each = λ e c has. elim (from_placed d e ds c) [
        | inl same ↦ absurd (true≢false (sym has ∙ ap (λ (x : Document). nat_lt 1 (length (resources_of x))) (sym same) ∙ few))
        | inr there ↦ known.each e there has
      ];
    }

-- ---- what they hold
held_in : (ds : List Document) (uri : Text) (at : ℕ) → ((d : Document) → Contains ds d → d ≡ document_from d.base d.value) → StandsAt ds uri at → list_any (holds_resource uri) ds ≡ true
held_in [] uri at made stands = absurd (omega (arith, stands.inside))
held_in (e ∷ es) uri at made stands =
    let d = get_or (e ∷ es) at e in
    let c = Contains-get_or (e ∷ es) at e stands.inside in
    any_at (holds_resource uri) d (e ∷ es) c (ap (λ u. holds_resource u d) (sym (stands.named e)) ∙ own_resource d (made d c))

-- the document with the canonical URI holds it
pub standing_held : (items : List (Rc Compiled Global)) (uri : Text) (at : ℕ) → StandsAt (shared_documents items) uri at → list_any (holds_resource uri) (shared_documents items) ≡ true
standing_held items uri at stands = held_in (shared_documents items) uri at (shared_made items) stands

-- and no other but those of several resources
pub compound_held : (items : List (Rc Compiled Global)) (cs : List Document) (uri : Text) (at : ℕ) → IsGap (shared_documents items) uri at → AreCompound (shared_documents items) cs
    → list_any (embeds uri) cs ≡ list_any (holds_resource uri) (shared_documents items)
unfolding embeds
compound_held items cs uri at gap known =
    let ds = shared_documents items in
    same_truth (list_any (embeds uri) cs) (list_any (holds_resource uri) ds)
    (λ some. let by = any_where (embeds uri) cs some in
    any_at (holds_resource uri) by.0 ds (known.inside by.0 by.1.0) (and_parts (nat_lt 1 (length (resources_of by.0))) (holds_resource uri by.0) by.1.1).1)
    (λ some. let by = any_where (holds_resource uri) ds some in
    let here : embeds uri by.0 ≡ true =
    embedded_at by.0 uri (nat_lt 1 (length (resources_of by.0))) refl (shared_made items by.0 by.1.0) (gap.absent by.0 by.1.0) ∙ by.1.1 in
    any_at (embeds uri) by.0 cs (known.each by.0 by.1.0 (and_parts (nat_lt 1 (length (resources_of by.0))) (holds_resource uri by.0) here).0) here)

-- of distinct documents each is found among them as among all
pub embed_alike : (all ds cs : List Document) → AreSound all → IsPart ds all → AreCompound ds cs → EmbedAlike ds cs
unfolding embeds
embed_alike all ds cs sound part known uri = by (find (embeds uri) cs) refl
  where
    holds : (d : Document) → embeds uri d ≡ true → holds_resource uri d ≡ true
    holds d e = (and_parts (nat_lt 1 (length (resources_of d))) (holds_resource uri d) e).1

    none : (o : Option Document) → find (embeds uri) cs ≡ None → find (embeds uri) ds ≡ o → None ≡ o
    none None e f = refl
    none (Some d) e f =
        let there = found_there (embeds uri) ds d f in
        let again = found_some (embeds uri) d cs (known.each d there.0 (and_parts (nat_lt 1 (length (resources_of d))) (holds_resource uri d) there.1).0) there.1 in
        absurd (nothing_found (sym e ∙ again.1))

    by : (o : Option Document) → find (embeds uri) cs ≡ o → find (embeds uri) cs ≡ find (embeds uri) ds
    by None e = e ∙ none (find (embeds uri) ds) e refl
    by (Some d) e =
        let there = found_there (embeds uri) cs d e in
        let inside = known.inside d there.0 in
        let some_one = found_some (embeds uri) d ds inside there.1 in
        let other = found_there (embeds uri) ds some_one.0 some_one.1 in
        e ∙ ap Some (one_document all uri d some_one.0 sound.distinct (part.inside d inside) (part.inside some_one.0 other.0) (holds d there.1) (holds some_one.0 other.1)) ∙ sym some_one.1

-- ---- one document more
found_last : (uri : Text) (d : Document) (cs : List Document) → find (embeds uri) (with_compound d cs) ≡ option_or (find (embeds uri) cs) (cond (embeds uri d) (Some d) None)
unfolding with_compound embeds
found_last uri d cs = by (nat_lt 1 (length (resources_of d))) refl
  where
    or_none : (o : Option Document) → o ≡ option_or o None
    or_none None = refl
    or_none (Some e) = refl

    by : (b : Bool) → nat_lt 1 (length (resources_of d)) ≡ b → find (embeds uri) (cond b (cs ++ d ∷ []) cs) ≡ option_or (find (embeds uri) cs) (cond (embeds uri d) (Some d) None)
    by true several = find-append (embeds uri) cs (d ∷ [])
    by false few = or_none (find (embeds uri) cs) ∙ ap (λ b. option_or (find (embeds uri) cs) (cond (b && holds_resource uri d) (Some d) None)) (sym few)

pub embed_with : (ds cs : List Document) (d : Document) → has_repeat same_text (resource_uris_of (documents_with d ds)) ≡ false
    → ((e : Document) → Contains ds e → e.canonical ≢ d.canonical) → EmbedAlike ds cs → EmbedAlike (documents_with d ds) (with_compound d cs)
unfolding embeds
embed_with ds cs d distinct other alike uri = found_last uri d cs ∙ ap (λ o. option_or o (cond (embeds uri d) (Some d) None)) (alike uri) ∙ by (find (embeds uri) ds) refl
  where
    holds : (e : Document) → embeds uri e ≡ true → holds_resource uri e ≡ true
    holds e h = (and_parts (nat_lt 1 (length (resources_of e))) (holds_resource uri e) h).1

    found : (e : Document) → Contains (documents_with d ds) e → embeds uri e ≡ true → Some e ≡ find (embeds uri) (documents_with d ds)
    found e c h =
        let some_one = found_some (embeds uri) e (documents_with d ds) c h in
        let there = found_there (embeds uri) (documents_with d ds) some_one.0 some_one.1 in
        ap Some (one_document (documents_with d ds) uri e some_one.0 distinct c there.0 (holds e h) (holds some_one.0 there.1)) ∙ sym some_one.1

    none : (o : Option Document) → embeds uri d ≡ false → find (embeds uri) ds ≡ None → find (embeds uri) (documents_with d ds) ≡ o → None ≡ o
    none None h f g = refl
    none (Some e) h f g =
        let there = found_there (embeds uri) (documents_with d ds) e g in
        elim (from_placed d e ds there.0) [
          | inl same ↦ absurd (true≢false (sym there.1 ∙ ap (embeds uri) (sym same) ∙ h))
          | inr before ↦ absurd (nothing_found (sym f ∙ (found_some (embeds uri) e ds before there.1).1))
        ]

    alone : (b : Bool) → embeds uri d ≡ b → find (embeds uri) ds ≡ None → cond b (Some d) None ≡ find (embeds uri) (documents_with d ds)
    alone true h f = found d (placed_itself d ds) h
    alone false h f = none (find (embeds uri) (documents_with d ds)) h f refl

    by : (o : Option Document) → find (embeds uri) ds ≡ o → option_or o (cond (embeds uri d) (Some d) None) ≡ find (embeds uri) (documents_with d ds)
    by None f = alone (embeds uri d) refl f
    by (Some e) f =
        let there = found_there (embeds uri) ds e f in
        found e (in_placed d e ds (other e there.0) there.0) there.1

-- of those that may be there
pub known_with : (before now : List Document) (d : Document) (old new : Option CompoundDocuments) → IfSome old (λ k. EmbedAlike before (compound_documents k))
    → IfSome new (λ c. option_map (λ o. with_compound d (compound_documents o)) old ≡ Some (compound_documents c))
    → ((cs : List Document) → EmbedAlike before cs → EmbedAlike now (with_compound d cs)) → IfSome new (λ c. EmbedAlike now (compound_documents c))
known_with before now d old None known with grown = tt
known_with before now d None (Some c) known with grown = absurd (nothing_found with)
known_with before now d (Some o) (Some c) known with grown = subst (EmbedAlike now) (same_Some _ _ with) (grown (compound_documents o) known)

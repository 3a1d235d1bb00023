-- Which resource URIs of documents that are put together a document has that stays.
use Rattle.std.proofs.Common.{◌≡◌, ◌⊎◌, Bool, true, false, not, List, Option, Some, None, find, is_some, Contains, sym, refl, ap, ap₂, ◌∙◌, subst, inl, inr, true≢false}
use Rattle.std.proofs.lemmas.Bool.{not-true}
use Rattle.std.specs.List.{list_any}
use Rattle.definitions.specs.Batches.{repeats, taken_by}
use Rattle.definitions.specs.Documents.{canonicals, document_of, documents_of_both, documents_with_all}
use Rattle.definitions.specs.Lists.{has_repeat}
use Rattle.definitions.specs.Reach.{holds_resource, least}
use Rattle.definitions.specs.Schemas.{Document, schemas_of}
use Rattle.definitions.specs.Values.{Text, same_text}
use Rattle.lemmas.proofs.Lists.{list_any-map}
use Rattle.lemmas.proofs.Texts.{same_text_turned}
use Rattle.definition_laws.proofs.JoinedDocuments.{ascend_all, from_all, in_all, is_other, is_unequal}
use Rattle.definition_laws.proofs.Membership.{any_where, found_none, found_some, found_there, in_map, one_of}
use Rattle.definition_laws.proofs.Repeats.{none_of}
use Rattle.definition_laws.proofs.Resources.{root_opens, same_text-unlike}
use Rattle.linker.specs.Sources.{shares_resource}
use Rattle.linker.specs.Together.{from_joined, unshared_holds_none}
use Rattle.linker.proofs.BothSources.{in_joined}
use Rattle.linker.proofs.CanonicalHolders.{first_holder}
use Rattle.linker.proofs.Positions.{ascend_distinct}
use Rattle.tenant_documents.specs.HeldBeside.{stays}
use Rattle.tenant_documents.proofs.ClaimedUris.{AreDistinctEach, IsHeldOutside, TellsHeld, claimed_are_taken, claimed_uris}
use Rattle.tenant_documents.proofs.Holders.{AreBoth}
use Rattle.tenant_documents.proofs.KeptRegistries.{unowned}
use Rattle.tenant_documents.proofs.LibraryDocuments.{are_placed}

module _ (ds ls es : List Document) (both : AreBoth ds ls) (once : has_repeat same_text (canonicals es) ≡ false)
    (own : list_any (λ (e : Document). is_some (document_of ls e.canonical)) es ≡ false) where
  abbrev pub held : Text → Bool
  held u = stays (canonicals es) (find (holds_resource u) ds) (find (holds_resource u) ls)

  abbrev after : List Document
  after = documents_with_all es ds

  abbrev all : List Document
  all = documents_of_both ls (documents_with_all es ds)

  none_owned : (e : Document) → Contains after e → is_some (document_of ls e.canonical) ≡ false
  none_owned e c = elim (from_all es ds e c) [
    | inl put ↦ none_of (λ (x : Document). is_some (document_of ls x.canonical)) e es own put
    | inr there ↦ unowned ds ls e both there
  ]

  in_end : (x : Document) → Contains ls x ⊎ Contains after x → Contains all x
  in_end x there =
      in_joined ls after x (ascend_distinct ls both.library.ascend)
      (λ l e c k. is_unequal e.canonical l (is_other ls e.canonical l (none_owned e k) c)) there

  -- a document that isn't replaced
  stands : (u : Text) (d : Document) → find (holds_resource u) ds ≡ Some d → list_any (same_text d.canonical) (canonicals es) ≡ false → IsHeldOutside all es u
  stands u d e none =
      let there = found_there (holds_resource u) ds d e in
      let apart = λ (x : Document) (c : Contains es x). none_of (same_text d.canonical) x.canonical (canonicals es) none (in_map (λ (y : Document). y.canonical) x es c) in
      record {
        holder = d;
        there = in_end d (inr (in_all es ds d there.0 (λ x c. same_text-unlike d.canonical x.canonical (apart x c))));
        apart = λ x c same. is_unequal d.canonical x (apart x c) (sym same);
        holds = there.1;
      }

  listed : (u : Text) (l : Document) → find (holds_resource u) ls ≡ Some l → IsHeldOutside all es u
  listed u l e =
      let there = found_there (holds_resource u) ls l e in
      record {
        holder = l;
        there = in_end l (inl there.0);
        apart = λ x c same.
            is_unequal x.canonical l (is_other ls x.canonical l (none_of (λ (y : Document). is_some (document_of ls y.canonical)) x es own c) there.0) same;
        holds = there.1;
      }

  held_outside : (u : Text) (o p : Option Document) → find (holds_resource u) ds ≡ o → find (holds_resource u) ls ≡ p → stays (canonicals es) o p ≡ true → IsHeldOutside all es u
  held_outside u (Some d) p e f h = stands u d e (not-true (list_any (same_text d.canonical) (canonicals es)) h)
  held_outside u None (Some l) e f h = listed u l f
  held_outside u None None e f h = absurd (true≢false (sym h))

  held_by_library : (l : Document) (u : Text) → Contains ls l → holds_resource u l ≡ true → held u ≡ true
  held_by_library l u c h =
      let apart = unshared_holds_none ds l in
      let none : find (holds_resource u) ds ≡ None =
      found_none (holds_resource u) ds (λ y k. apart y (none_of (shares_resource ds) l ls both.apart c) k u (root_opens (schemas_of l.base l.value) u h)) in
      let some : (z : Document) × (find (holds_resource u) ls ≡ Some z) = found_some (holds_resource u) l ls c h in
      ap₂ (stays (canonicals es)) none some.1

  put_or_held : (e : Document) (u : Text) (replaced : Bool) → list_any (same_text e.canonical) (canonicals es) ≡ replaced → Contains after e → Contains ds e
      → holds_resource u e ≡ true → Contains es e ⊎ (held u ≡ true)
  put_or_held e u true same c there h =
      let by : (x : Document) × (Contains es x × (same_text e.canonical x.canonical ≡ true)) =
      any_where (λ (x : Document). same_text e.canonical x.canonical) es (sym (list_any-map (same_text e.canonical) (λ (x : Document). x.canonical) es) ∙ same) in
      let one : e ≡ by.0 =
      one_of same_text (λ (x : Document). x.canonical) (λ a b k. same_text_turned b a ∙ k) after (ascend_distinct after (ascend_all es ds both.own.ascend)) e by.0 c
      (are_placed es ds once by.0 by.1.0) by.1.1 in
      inl (subst (Contains es) (sym one) by.1.0)
  put_or_held e u false other c there h =
      inr (ap (λ o. stays (canonicals es) o (find (holds_resource u) ls)) (first_holder ds u e both.own.distinct there h) ∙ ap not other)

  tells : TellsHeld held all es
  tells = record {
    inside = λ d c. in_end d (inr (are_placed es ds once d c));
    outside = λ u h. held_outside u (find (holds_resource u) ds) (find (holds_resource u) ls) refl refl h;
    others = λ e u c h. elim (from_joined ls after e c) [
      | inl there ↦ inr (held_by_library e u there h)
      | inr put ↦ elim (from_all es ds e put) [
        | inl new ↦ inl new
        | inr there ↦ put_or_held e u (list_any (same_text e.canonical) (canonicals es)) refl put there h
      ]
    ];
  }

  pub taken_are_claimed : AreDistinctEach es → taken_by all es ≡ least (repeats (claimed_uris held es))
  taken_are_claimed each = claimed_are_taken held all es once each tells

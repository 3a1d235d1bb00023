-- The document that holds a URI, and whether the URI is its canonical URI.
use Rattle.std.proofs.Common.{◌≡◌, List, Bool, true, false, Option, Some, None, is_some, find, Contains, refl, sym, ap, subst, ◌∙◌, true≢false}
use Rattle.std.specs.Cmp.Lexicographic.{bytes_decides}
use Rattle.definitions.specs.Documents.{document_of, AreSound}
use Rattle.definitions.specs.Reach.{holds_resource, reach, holds}
use Rattle.definitions.specs.Schemas.{Document}
use Rattle.definitions.specs.Values.{Text, same_text}
use Rattle.definition_laws.proofs.Membership.{found_there, found_some, from_filter}
use Rattle.definition_laws.proofs.ReachedSets.{reach_is_least, reach_as_filter}
use Rattle.definition_laws.proofs.Resources.{one_document}
use Rattle.lemmas.proofs.SomeValues.{none_some}
use Rattle.linker.proofs.CanonicalHolders.{own_resource}
use Rattle.linker.proofs.Positions.{ascend_distinct}
use Rattle.tenant_hub.specs.SourceReplies.{is_named}

module _ (ds : List Document) (uri : Text) (sound : AreSound ds) where
  -- a reached document with this canonical URI
  record IsReachedByName (d : Document) : Type 0 where
    inside : Contains ds d
    named : same_text uri d.canonical ≡ true
    holds_it : holds_resource uri d ≡ true

  by_name : (d : Document) → document_of (reach ds uri) uri ≡ Some d → IsReachedByName d
  by_name d e =
      let there = found_there (λ (x : Document). same_text uri x.canonical) (reach ds uri) d e in
      let part = reach_as_filter ds uri in
      let inside = (from_filter part.0 d ds (subst (λ es. Contains es d) part.1 there.0)).0 in
      record {
        inside = inside;
        named = there.1;
        holds_it = subst (λ u. holds_resource u d ≡ true) (sym ((bytes_decides uri d.canonical).0 there.1)) (own_resource d (sound.made d inside));
      }

  unheld : (o : Option Document) → None ≡ find (holds_resource uri) ds → document_of (reach ds uri) uri ≡ o → is_some o ≡ false
  unheld None none e = refl
  unheld (Some d) none e =
      let by = by_name d e in
      absurd (none_some (none ∙ (found_some (holds_resource uri) d ds by.inside by.holds_it).1))

  module _ (d : Document) (held : Some d ≡ find (holds_resource uri) ds) where
    holder : Contains ds d × (holds_resource uri d ≡ true)
    holder = found_there (holds_resource uri) ds d (sym held)

    otherwise_named : (o : Option Document) → same_text uri d.canonical ≡ false → document_of (reach ds uri) uri ≡ o → is_some o ≡ false
    otherwise_named None other e = refl
    otherwise_named (Some z) other e =
        let by = by_name z e in
        let same : z ≡ d = one_document ds uri z d sound.distinct by.inside holder.0 by.holds_it holder.1 in
        absurd (true≢false (sym by.named ∙ ap (λ x. same_text uri x.canonical) same ∙ other))

    named_at : (b : Bool) → same_text uri d.canonical ≡ b → b ≡ is_some (document_of (reach ds uri) uri)
    named_at true e =
        let reached : Contains (reach ds uri) d = (reach_is_least ds uri (ascend_distinct ds sound.ascend) d).1 (holds holder.0 holder.1) in
        sym (ap is_some (found_some (λ (x : Document). same_text uri x.canonical) d (reach ds uri) reached e).1)
    named_at false e = sym (otherwise_named (document_of (reach ds uri) uri) e refl)

  pub names_a_document : (o : Option Document) → o ≡ find (holds_resource uri) ds → is_named uri o ≡ is_some (document_of (reach ds uri) uri)
  names_a_document None e = sym (unheld (document_of (reach ds uri) uri) e refl)
  names_a_document (Some d) e = named_at d e (same_text uri d.canonical) refl

-- What references name, by what they are read as.
use Rattle.std.proofs.Common.{◌≡◌, ◌&&◌, List, [], true, None, Some, Ok, Err, IfSome, Option, Result, IsTrue, is_err, is_some, Contains, find, option_map, string_bytes, refl, sym, ap, ◌∙◌}
use Rattle.definitions.specs.Faults.{Fault}
use Rattle.std.proofs.lemmas.Bool.{and_from}
use Rattle.definitions.specs.Fragments.{Fragment, plain_name}
use Rattle.definitions.specs.Schemas.{Schema}
use Rattle.definitions.specs.Targets.{resource_root, fragment_of, is_anchor, is_dynamic_anchor, target_by, target_in, target, dynamic_by}
use Rattle.definitions.specs.Uris.{without_fragment}
use Rattle.definitions.specs.Values.{Text, same_text}
use Rattle.uri_ref.specs.FragmentViews.{fragment_view}
use Rattle.definition_laws.proofs.Membership.{found_there}
use Rattle.definition_laws.proofs.Occurrences.{found_somewhere, in_from_contains}
use Rattle.definition_laws.proofs.Roots.{roots_found, pointer_root}
use Rattle.lemmas.proofs.Options.{some_from_is_some}
use Rattle.lemmas.proofs.Texts.{same_text_itself}
use Rattle.linker.specs.AbsoluteReferences.{target_of, dynamic_target_of}
use Rattle.linker.specs.DynamicTargets.{HasItsAnchor, IsNamedBy, first_target, has_anchor, is_anchored, target_in_scope}
use Rattle.linker.specs.LinkedDocuments.{linked_documents, linked_schemas}
use Rattle.linker.specs.declared.linked.Linked.{Linked}
use Rattle.linker.specs.declared.named.Named.{Named}
use Rattle.uri_ref.specs.AbsoluteReferences.{IsReadAs}
use Rattle.linker.proofs.Adding.{is_some-find}
use Rattle.uri_ref.specs.declared.absolute_references.AbsoluteReference.{AbsoluteReference}

no_target : (table : List Schema) (uri : Text) (f : Result Fragment Fault) → is_err f ≡ true → None ≡ target_in table uri f
no_target table uri (Ok f) e = absurd (cc)
no_target table uri (Err f) e = refl

-- a reference whose fragment can't be read names nothing
pub unread : (table : List Schema) (text : Text) → IsReadAs text None → IsNamedBy table text None
unread table text e =
    let nothing = no_target table (without_fragment text) (fragment_of text) e in
    record {
      first = nothing;
      dynamic = λ scope. ap (option_map (λ first. dynamic_by table scope first (fragment_of text))) nothing;
      anchored = tt;
    }

-- and one that is read names what it is read as
pub read : (table : List Schema) (text : Text) (r : AbsoluteReference) (n : Option Named) → IsReadAs text (Some r) → option_map first_target n ≡ target_of table r
    → ((scope : List Text) → option_map (target_in_scope table scope) n ≡ dynamic_target_of table scope r) → IfSome n (HasItsAnchor table) → IsNamedBy table text n
read table text r n is first dynamic anchored =
    let same = ap (λ u. target_in table u (Ok (fragment_view r.fragment))) is.0 ∙ ap (target_in table (without_fragment text)) (sym is.1) in
    record {
      first = first ∙ same;
      dynamic = λ scope. dynamic scope
          ∙ ap (option_map (λ first. dynamic_by table scope first (Ok (fragment_view r.fragment)))) same
          ∙ ap (λ kind. option_map (λ first. dynamic_by table scope first kind) (target table text)) (sym is.1);
      anchored = anchored;
    }

-- one of the schemas has the plain name that names this one, where that is its dynamic anchor
pub anchor_there : (table : List Schema) (uri name : Text) (s : Schema) → target_by table uri (plain_name name) ≡ Some s → is_dynamic_anchor name s ≡ true
    → has_anchor table name ≡ true
anchor_there table uri name s e own =
    let there = found_there (λ (t : Schema). same_text uri t.resource && is_anchor name t) table s e in
    sym (is_some-find (is_dynamic_anchor name) table) ∙ found_somewhere (is_dynamic_anchor name) table s (in_from_contains table s there.0) own

-- a resource of the one that has an anchor has it
pub anchored_there : (table : List Schema) (name : Text) → has_anchor table name ≡ true → (uri : Text) × (is_anchored table name uri ≡ true)
anchored_there table name has =
    let p = is_dynamic_anchor name in
    let found : (s : Schema) × (find p table ≡ Some s) = some_from_is_some (find p table) (is_some-find p table ∙ has) in
    let s = found.0 in
    let there = found_there p table s found.1 in (
      s.resource,
      found_somewhere (λ t. same_text s.resource t.resource && is_dynamic_anchor name t) table s (in_from_contains table s there.0)
          (and_from (same_text s.resource s.resource) (is_dynamic_anchor name s) (same_text_itself s.resource) there.1),
    )

-- the URI of a schema that opens a resource has a root
pub opened_has_root : (l : Linked) (s : Schema) (uri : Text) → Contains (linked_schemas l) s → s.pointer ≡ [] → s.resource ≡ uri
    → IsTrue (is_some (resource_root (linked_schemas l) uri))
unfolding linked_documents
opened_has_root l s uri c root e =
    ap (λ u. is_some (resource_root (linked_schemas l) u)) (sym e) ∙ ap is_some (roots_found (linked_documents l) l.distinct s c (pointer_root s root))

use Rattle.std.proofs.Common.{◌≡◌, None, Some, find, is_some, ap, sym, ◌∙◌, subst}
use Rattle.definitions.specs.Documents.{Ascend}
use Rattle.definitions.specs.Reach.{holds_resource}
use Rattle.definitions.specs.Scanning.{resource_uris}
use Rattle.definitions.specs.Schemas.{table_of}
use Rattle.definitions.specs.Targets.{resource_root, schema_with_dynamic_anchor}
use Rattle.definitions.specs.Values.{same_text}
use Rattle.definitions.specs.Lists.{has_repeat}
use Rattle.linker.specs.LinkFaults.{link_fault}
use Rattle.linker.specs.LinkedDocuments.{linked_uri, linked_documents}
use Rattle.linker.specs.CompoundDocuments.{compound_documents}
use Rattle.linker.specs.SharedDocuments.{shared_documents}
use Rattle.linker.specs.Visits.{EmbedAlike}
use Rattle.linker.proofs.LinkFaults.{IsLinked, is_linked, reached_table}
use Rattle.linker.proofs.Visits.{reach_ascends}
use Rattle.linker.proofs.Searchable.{searchable_as, searchable_linked}
use Rattle.linker.proofs.linking.link.Goals as goal

pub judge-requires : goal.judge-requires
judge-requires g c =
    let all = g.S.Source.documents c.args.source.now in
    let sound = g.met.S.Source.sound c.args.source.now in
    let same = ap shared_documents c.deref.ensures.value ∙ c.in_ok-documents.ensures.ok in
    record {
      ascend = subst Ascend (sym same) (reach_ascends all c.args.resource.now sound.ascend);
      distinct = ap (λ ds. has_repeat same_text (resource_uris (table_of ds))) same ∙ reached_table all c.args.resource.now sound;
      known = subst (λ ds. EmbedAlike (shared_documents ds) (compound_documents c.in_ok-documents.field-0.compound)) (sym c.deref.ensures.value) c.in_ok-documents.ensures.known;
    }

pub holder_of-requires : goal.holder_of-requires
holder_of-requires g c =
    let linked =
    is_linked (g.S.Source.documents c.args.source.now) _ c.args.resource.now (g.met.S.Source.sound c.args.source.now) c.in_ok-documents.ensures.ok
    (subst (λ xs. link_fault (shared_documents xs) ≡ None) c.deref.ensures.value c.in_ok-judge.ensures.ok) in
    record {
      searchable = searchable_as _ _ (compound_documents c.in_ok-documents.field-0.compound) (sym c.deref-2.ensures.value) (searchable_linked _ c.args.resource.now _ linked c.in_ok-documents.ensures.known);
      asked = ap (λ xs. is_some (resource_root (table_of xs) c.args.resource.now)) (ap shared_documents c.deref-2.ensures.value) ∙ linked.asked;
    }

pub target_documents-requires : goal.target_documents-requires
target_documents-requires g c =
    let linked =
    is_linked (g.S.Source.documents c.args.source.now) _ c.args.resource.now (g.met.S.Source.sound c.args.source.now) c.in_ok-documents.ensures.ok
    (subst (λ xs. link_fault (shared_documents xs) ≡ None) c.deref.ensures.value c.in_ok-judge.ensures.ok) in
    searchable_as _ _ (compound_documents c.in_ok-documents.field-0.compound) (sym c.deref-4.ensures.value) (searchable_linked _ c.args.resource.now _ linked c.in_ok-documents.ensures.known)

pub invariant_of-result : goal.invariant_of-result
invariant_of-result g c =
    let ds = shared_documents c.in_ok-documents.field-0.documents.items in
    let uri = c.in_ok-uri.ensures.ok in
    let linked : IsLinked ds c.args.resource.now =
    is_linked (g.S.Source.documents c.args.source.now) ds c.args.resource.now (g.met.S.Source.sound c.args.source.now) c.in_ok-documents.ensures.ok
    (subst (λ xs. link_fault (shared_documents xs) ≡ None) c.deref.ensures.value c.in_ok-judge.ensures.ok) in
    record {
      ascend = linked.ascend;
      distinct = linked.distinct;
      known = c.in_ok-documents.ensures.known;
      whole = linked.whole;
      holder = ap (λ u. find (holds_resource u) ds) uri ∙ ap (λ xs. find (holds_resource c.args.resource.now) (shared_documents xs)) (sym c.deref-2.ensures.value) ∙ c.in_ok-document.ensures.holder;
      is_numbered = c.in_ok-document.ensures.number ∙ ap Some (sym uri);
      by_dynamic_anchor = λ uri name.
          c.in_ok-dynamic_resources.ensures uri name
          ∙ ap (λ xs. is_some (schema_with_dynamic_anchor (table_of (shared_documents xs)) uri name)) c.deref-3.ensures.value;
    }

pub returns-clause-uri : goal.returns-clause-uri
unfolding linked_uri
returns-clause-uri g c = c.in_ok-uri.ensures.ok

pub returns-clause-documents : goal.returns-clause-documents
unfolding linked_documents
returns-clause-documents g c = c.in_ok-documents.ensures.ok

use Rattle.std.proofs.Common.{◌≡◌, false, not, cond, IfSome, Some, option_map, ap, sym, ◌∙◌, subst}
use Rattle.definitions.specs.Documents.{documents_with, resource_uris_of}
use Rattle.definitions.specs.Lists.{has_repeat}
use Rattle.definitions.specs.Scanning.{scan_fault}
use Rattle.definitions.specs.Values.{same_text}
use Rattle.definition_laws.proofs.StoredDocuments.{holds_itself}
use Rattle.schema_scan.specs.CompiledDocuments.{compiled_view, compiled_base, compiled_value}
use Rattle.schema_scan.specs.declared.compiled.Compiled.{Compiled}
use Rattle.linker.specs.CompoundDocuments.{compound_documents}
use Rattle.linker.specs.SharedDocuments.{shared_documents}
use Rattle.linker.specs.Sources.{shares_resource}
use Rattle.linker.specs.Visits.{EmbedAlike, with_compound}
use Rattle.linker.proofs.Adding.{IsSoundList, kept_or_put, sound_after, unfound, unnamed}
use Rattle.linker.proofs.Compound.{embed_with, known_with}
use Rattle.linker.specs.SoundLists.{shared_made}
use Rattle.linker.proofs.list_source.ListSource.add.Goals as goal

pub invariant_of-self : goal.invariant_of-self
invariant_of-self c =
    let same = c.checked.ensures.same ∙ c.deref.ensures in
    let d = compiled_view c.args.document.value in
    let before = shared_documents c.args.self.now.documents.items in
    let free : shares_resource before d ≡ false =
    sym (c.shares_resource.ensures ∙ ap (λ x. shares_resource before (compiled_view x)) same) ∙ c.if-shares_resource.false in
    let sound : IsSoundList before = record { ascend = c.args.self.now.ascend; distinct = c.args.self.now.distinct; faultless = c.args.self.now.faultless } in
    let now = shared_documents c.insert_in_order.new.documents.items in
    let after = sound_after before now d sound
    (sym (ap (λ x. scan_fault (compiled_base x) (compiled_value x)) (c.deref.ensures)) ∙ c.checked.ensures.faultless) free
    (kept_or_put c.insert_in_order.result before now d c.insert_in_order.ensures.put c.insert_in_order.ensures.kept) in
    record {
      ascend = after.ascend;
      distinct = after.distinct;
      known = subst (λ o. IfSome o (λ k. EmbedAlike now (compound_documents k))) (sym c.take-compound.ensures.after) tt;
      faultless = after.faultless;
    }

pub invariant_of-self-2 : goal.invariant_of-self-2
invariant_of-self-2 c =
    let same = c.checked.ensures.same ∙ c.deref.ensures in
    let d = compiled_view c.args.document.value in
    let before = shared_documents c.args.self.now.documents.items in
    let free : shares_resource before d ≡ false =
    sym (c.shares_resource.ensures ∙ ap (λ x. shares_resource before (compiled_view x)) same) ∙ c.if-shares_resource.false in
    let sound : IsSoundList before = record { ascend = c.args.self.now.ascend; distinct = c.args.self.now.distinct; faultless = c.args.self.now.faultless } in
    let now = shared_documents c.insert_in_order.new.documents.items in
    let after = sound_after before now d sound
    (sym (ap (λ x. scan_fault (compiled_base x) (compiled_value x)) (c.deref.ensures)) ∙ c.checked.ensures.faultless) free
    (kept_or_put c.insert_in_order.result before now d c.insert_in_order.ensures.put c.insert_in_order.ensures.kept) in
    let made = shared_made c.args.self.now.documents.items in
    let own = holds_itself (compiled_base c.args.document.value) (compiled_value c.args.document.value) in
    let put : now ≡ documents_with d before =
    c.in_ok-added.ensures.put ∙ ap (λ b. cond b (documents_with d before) before) (c.in_ok-added.ensures.absent ∙ unfound before d made own free ∙ ap not free) in
    let with = subst (λ (x : Compiled). IfSome c.with_document.result (λ k. option_map (λ o. with_compound (compiled_view x) (compound_documents o)) c.take-compound.result ≡ Some (compound_documents k)))
    c.in_ok-again.ensures.cases c.with_document.ensures in
    let known = subst (λ o. IfSome o (λ k. EmbedAlike before (compound_documents k))) (sym c.take-compound.ensures.value) c.args.self.now.known in
    record {
      ascend = after.ascend;
      distinct = after.distinct;
      known = known_with before now d c.take-compound.result c.with_document.result known with
          (λ cs alike. subst (λ ds. EmbedAlike ds (with_compound d cs)) (sym put)
          (embed_with before cs d (ap (λ ds. has_repeat same_text (resource_uris_of ds)) (sym put) ∙ after.distinct) (unnamed before d made own free) alike));
      faultless = after.faultless;
    }

pub returns-clause-ok : goal.returns-clause-ok
returns-clause-ok c =
    let same = c.checked.ensures.same ∙ c.deref.ensures in
    let before = shared_documents c.args.self.now.documents.items in
    let free : shares_resource before (compiled_view c.args.document.value) ≡ false =
    sym (c.shares_resource.ensures ∙ ap (λ d. shares_resource before (compiled_view d)) same) ∙ c.if-shares_resource.false in
    c.in_ok-added.ensures.absent ∙ unfound before (compiled_view c.args.document.value) (shared_made c.args.self.now.documents.items) (holds_itself (compiled_base c.args.document.value) (compiled_value c.args.document.value)) free

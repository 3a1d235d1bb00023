use Rattle.std.proofs.Common.{◌≡◌, false, IfSome, ap, sym, ◌∙◌, subst}
use Rattle.definitions.specs.Documents.{Ascend}
use Rattle.definitions.specs.Lists.{has_repeat}
use Rattle.definitions.specs.Scanning.{resource_uris}
use Rattle.definitions.specs.Schemas.{table_of}
use Rattle.definitions.specs.Values.{same_text}
use Rattle.definition_laws.proofs.Resources.{table_uris}
use Rattle.linker.specs.CompoundDocuments.{compound_documents}
use Rattle.linker.specs.ListedDocuments.{listed_documents}
use Rattle.linker.specs.SharedDocuments.{shared_documents}
use Rattle.linker.specs.Visits.{EmbedAlike}
use Rattle.linker.proofs.list_source.ListSource.holder.Goals as goal

pub asked_holder-requires : goal.asked_holder-requires
asked_holder-requires c =
    let same = sym (ap shared_documents c.deref-in-None.ensures.value) in
    record {
      ascend = subst Ascend same c.args.self.now.ascend;
      distinct = subst (λ ds. has_repeat same_text (resource_uris (table_of ds)) ≡ false) same
          (ap (has_repeat same_text) (table_uris (shared_documents c.args.self.now.documents.items)) ∙ c.args.self.now.distinct);
    }

pub holder-requires : goal.holder-requires
holder-requires c =
    let same = sym (ap shared_documents c.deref.ensures.value) in
    let known : EmbedAlike (listed_documents c.args.self.now) (compound_documents c.in-Some.compound) =
    subst (λ o. IfSome o (λ k. EmbedAlike (listed_documents c.args.self.now) (compound_documents k))) c.in-Some.is c.args.self.now.known in
    record {
      ascend = subst Ascend same c.args.self.now.ascend;
      distinct = subst (λ ds. has_repeat same_text (resource_uris (table_of ds)) ≡ false) same
          (ap (has_repeat same_text) (table_uris (listed_documents c.args.self.now)) ∙ c.args.self.now.distinct);
      known = subst (λ ds. EmbedAlike ds (compound_documents c.in-Some.compound)) same known;
    }

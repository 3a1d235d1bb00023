use Rattle.linker.specs.ListedDocuments.{listed_documents}
use Rattle.stored_documents.specs.DocumentLists.{documents_in}
use Rattle.tenant_documents.proofs.KeptRegistries.{few_of_none, small_of_none, apart_of_none}
use Rattle.tenant_documents.proofs.registry.Registry.new.Goals as goal

pub invariant_of-result : goal.invariant_of-result
invariant_of-result c = record {
  few = few_of_none c.args.most_documents (documents_in c.new.result) c.new.ensures.none;
  small = small_of_none c.args.most_bytes (documents_in c.new.result) c.new.ensures.none;
  apart = apart_of_none (documents_in c.new.result) (listed_documents c.args.library.value) c.new.ensures.none;
  fresh = c.new.ensures.fresh;
}

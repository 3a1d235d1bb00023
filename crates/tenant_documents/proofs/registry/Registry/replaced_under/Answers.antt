use Rattle.std.proofs.Common.{length, ap, sym, ◌∙◌}
use Rattle.definitions.specs.Documents.{bytes_of}
use Rattle.definitions.specs.Lists.{option_list}
use Rattle.definitions.specs.Texts.{text}
use Rattle.stored_documents.proofs.PutTogether.{alone_bytes}
use Rattle.stored_documents.specs.StoredDocuments.{stored_view}
use Rattle.tenant_documents.specs.Registries.{registry_view}
use Rattle.tenant_documents.proofs.registry.Registry.replaced_under.Goals as goal

pub returns-in-Some-clause-count : goal.returns-in-Some-clause-count
unfolding registry_view
returns-in-Some-clause-count c = ap (λ o. length (option_list o)) c.in-Some.ensures

pub returns-in-Some-clause-bytes : goal.returns-in-Some-clause-bytes
unfolding registry_view
returns-in-Some-clause-bytes c =
    c.length.ensures ∙ ap (λ s. length (text (stored_view s).value)) c.deref.ensures
    ∙ sym (alone_bytes (stored_view c.in-Some.old.now.value))
    ∙ ap (λ o. bytes_of (option_list o)) c.in-Some.ensures

pub returns-in-None-clause-count : goal.returns-in-None-clause-count
unfolding registry_view
returns-in-None-clause-count c = ap (λ o. length (option_list o)) c.in-None.ensures

pub returns-in-None-clause-bytes : goal.returns-in-None-clause-bytes
unfolding registry_view
returns-in-None-clause-bytes c = ap (λ o. bytes_of (option_list o)) c.in-None.ensures

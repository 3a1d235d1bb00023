use Rattle.std.proofs.Common.{◌≡◌, ◌≤◌, ◌+◌, ◌-◌, Some, None, sym, ap, ◌∙◌, arith}
use Rattle.definitions.specs.Documents.{document_of, documents_with, bytes_of}
use Rattle.definitions.specs.Patterns.{regular_search}
use Rattle.stored_documents.specs.DocumentLists.{documents_in}
use Rattle.stored_documents.specs.StoredDocuments.{stored_view}
use Rattle.definition_laws.proofs.QuotaSums.{add_up}
use Rattle.tenant_documents.specs.Registries.{registry_view}
use Rattle.tenant_documents.proofs.KeptRegistries.{registry_kept}
use Rattle.tenant_documents.proofs.Sums.{size, count_after_new, count_after_old, bytes_after_new, bytes_after_old, bytes_of_old, as_sum, same_sum, same_pair}
use Rattle.tenant_documents.proofs.registry.Registry.put_quota_fault.Goals as goal

pub overflow_sub-others : goal.overflow_sub-others
unfolding registry_view
overflow_sub-others c =
    let r = c.args.self.now in
    let ds = documents_in r.documents in
    let d = stored_view c.args.document.now in
    let old = stored_view c.in-Some.old.now.value in
    let sums = add_up regular_search (registry_view r) (registry_kept r) in
    let there : document_of ds d.canonical ≡ Some old = ap (document_of ds) (sym c.canonical.ensures) ∙ sym c.in-Some.ensures in
    let within : size old ≤ bytes_of ds = bytes_of_old ds d.canonical old (sums.1 d.canonical) there in
    let own : c.length.result ≡ size old = c.length.ensures ∙ ap (λ s. size (stored_view s)) c.deref.ensures in
    let all : c.bytes-bytes.result ≡ bytes_of ds = c.bytes-bytes.ensures in
    omega (arith, within, own, all)

pub returns-in-Some : goal.returns-in-Some
unfolding registry_view
returns-in-Some c =
    let r = c.args.self.now in
    let ds = documents_in r.documents in
    let d = stored_view c.args.document.now in
    let old = stored_view c.in-Some.old.now.value in
    let sums = add_up regular_search (registry_view r) (registry_kept r) in
    let there : document_of ds d.canonical ≡ Some old = ap (document_of ds) (sym c.canonical.ensures) ∙ sym c.in-Some.ensures in
    let own : c.length.result ≡ size old = c.length.ensures ∙ ap (λ s. size (stored_view s)) c.deref.ensures in
    c.quota_fault.ensures (documents_with d ds) (record {
      documents = count_after_old ds d old (sums.0 d) there ∙ sym c.len-count.ensures;
      together =
          as_sum c.checked_add.result (c.bytes-bytes.result - c.length.result) c.length-length.result (bytes_of (documents_with d ds)) c.checked_add.ensures
          (bytes_after_old ds d old (sums.0 d) (sums.1 d.canonical) there
          ∙ same_sum (bytes_of ds) (size old) (size d) c.bytes-bytes.result c.length.result c.length-length.result c.bytes-bytes.ensures own c.length-length.ensures);
    })

pub returns-in-None : goal.returns-in-None
unfolding registry_view
returns-in-None c =
    let r = c.args.self.now in
    let ds = documents_in r.documents in
    let d = stored_view c.args.document.now in
    let sums = add_up regular_search (registry_view r) (registry_kept r) in
    let none : document_of ds d.canonical ≡ None = ap (document_of ds) (sym c.canonical.ensures) ∙ sym c.in-None.ensures in
    c.quota_fault-in-None.ensures (documents_with d ds) (record {
      documents = count_after_new ds d (sums.0 d) none ∙ ap (λ n. n + 1) (sym c.len-count.ensures);
      together =
          as_sum c.checked_add-in-None.result c.bytes-bytes.result c.length-length.result (bytes_of (documents_with d ds)) c.checked_add-in-None.ensures
          (bytes_after_new ds d (sums.0 d) none ∙ same_pair (bytes_of ds) (size d) c.bytes-bytes.result c.length-length.result c.bytes-bytes.ensures c.length-length.ensures);
    })

use Rattle.std.proofs.Common.{◌≡◌, ◌+◌, ℕ, take, length, ap, sym, ◌∙◌, arith}
use Rattle.definitions.specs.Documents.{bytes_of, document_of}
use Rattle.definitions.specs.Lists.{option_list}
use Rattle.definition_laws.proofs.AcceptedBatches.{unrepeated}
use Rattle.stored_documents.specs.SharedStored.{stored_documents}
use Rattle.stored_documents.specs.StoredDocuments.{stored_view}
use Rattle.tenant_documents.specs.HeldBeside.{replaced_by}
use Rattle.tenant_documents.specs.Registries.{registry_view}
use Rattle.tenant_documents.proofs.BatchSizes.{few_replaced, small_replaced}
use Rattle.tenant_documents.proofs.KeptRegistries.{registry_both}
use Rattle.tenant_documents.proofs.StoredLists.{bytes_gone_more, gone_on, may_go, none_stored, number_gone_more, stored_once}
use Rattle.tenant_documents.proofs.registry.Registry.left_over.Goals as goal

no_more : (n m k : ℕ) → n ≡ m → k ≡ 0 → n + k ≡ m
no_more n m k e f = omega (arith, e, f)

pub loop-document-init : goal.loop-document-init
unfolding registry_view
loop-document-init c = record {
  count = no_more _ _ _ c.len-count.ensures (ap (λ es. length (replaced_by es (registry_view c.args.self.now).documents)) none_stored);
  bytes = no_more _ _ _ c.bytes-bytes.ensures (ap (λ es. bytes_of (replaced_by es (registry_view c.args.self.now).documents)) none_stored);
}

pub overflow_sub-count : goal.overflow_sub-count
unfolding registry_view
overflow_sub-count c =
    let ds = (registry_view c.args.self.now).documents in
    let ss = c.args.documents.now in
    let i = c.loop-document.document-index in
    let s = c.document-item.result in
    let own : c.replaced_under-fewer.result.0 ≡ length (option_list (document_of ds (stored_view s.value).canonical)) =
    c.replaced_under-fewer.ensures.count ∙ ap (λ u. length (option_list (document_of ds u))) (c.canonical.ensures ∙ ap (λ x. (stored_view x).canonical) c.deref.ensures) in
    may_go c.loop-document.count (length (replaced_by (stored_documents (take i ss)) ds)) c.replaced_under-fewer.result.0 (length (replaced_by (stored_documents (take (i + 1) ss)) ds)) (length ds)
    c.loop-document.invariant.count
    (number_gone_more ss i s ds c.loop-document-test.true c.document-item.is ∙ ap (λ n. length (replaced_by (stored_documents (take i ss)) ds) + n) (sym own))
    (few_replaced (stored_documents (take (i + 1) ss)) ds (registry_both c.args.self.now).own.ascend (stored_once ss (i + 1) (unrepeated (stored_documents ss) c.requires.once)))

pub overflow_sub-bytes : goal.overflow_sub-bytes
unfolding registry_view
overflow_sub-bytes c =
    let ds = (registry_view c.args.self.now).documents in
    let ss = c.args.documents.now in
    let i = c.loop-document.document-index in
    let s = c.document-item.result in
    let own : c.replaced_under-fewer.result.1 ≡ bytes_of (option_list (document_of ds (stored_view s.value).canonical)) =
    c.replaced_under-fewer.ensures.bytes ∙ ap (λ u. bytes_of (option_list (document_of ds u))) (c.canonical.ensures ∙ ap (λ x. (stored_view x).canonical) c.deref.ensures) in
    may_go c.loop-document.bytes (bytes_of (replaced_by (stored_documents (take i ss)) ds)) c.replaced_under-fewer.result.1 (bytes_of (replaced_by (stored_documents (take (i + 1) ss)) ds)) (bytes_of ds)
    c.loop-document.invariant.bytes
    (bytes_gone_more ss i s ds c.loop-document-test.true c.document-item.is ∙ ap (λ n. bytes_of (replaced_by (stored_documents (take i ss)) ds) + n) (sym own))
    (small_replaced (stored_documents (take (i + 1) ss)) ds (registry_both c.args.self.now).own.ascend (stored_once ss (i + 1) (unrepeated (stored_documents ss) c.requires.once)))

pub loop-document-preserved : goal.loop-document-preserved
unfolding registry_view
loop-document-preserved c =
    let ds = (registry_view c.args.self.now).documents in
    let ss = c.args.documents.now in
    let i = c.loop-document.document-index in
    let s = c.document-item.result in
    let once = stored_once ss (i + 1) (unrepeated (stored_documents ss) c.requires.once) in
    let named = c.canonical.ensures ∙ ap (λ x. (stored_view x).canonical) c.deref.ensures in
    record {
      count =
          gone_on c.loop-document.count (length (replaced_by (stored_documents (take i ss)) ds)) c.replaced_under-fewer.result.0 (length (replaced_by (stored_documents (take (i + 1) ss)) ds)) (length ds)
          c.loop-document.invariant.count
          (number_gone_more ss i s ds c.loop-document-test.true c.document-item.is
          ∙ ap (λ n. length (replaced_by (stored_documents (take i ss)) ds) + n) (sym (c.replaced_under-fewer.ensures.count ∙ ap (λ u. length (option_list (document_of ds u))) named)))
          (few_replaced (stored_documents (take (i + 1) ss)) ds (registry_both c.args.self.now).own.ascend once);
      bytes =
          gone_on c.loop-document.bytes (bytes_of (replaced_by (stored_documents (take i ss)) ds)) c.replaced_under-fewer.result.1 (bytes_of (replaced_by (stored_documents (take (i + 1) ss)) ds)) (bytes_of ds)
          c.loop-document.invariant.bytes
          (bytes_gone_more ss i s ds c.loop-document-test.true c.document-item.is
          ∙ ap (λ n. bytes_of (replaced_by (stored_documents (take i ss)) ds) + n) (sym (c.replaced_under-fewer.ensures.bytes ∙ ap (λ u. bytes_of (option_list (document_of ds u))) named)))
          (small_replaced (stored_documents (take (i + 1) ss)) ds (registry_both c.args.self.now).own.ascend once);
    }

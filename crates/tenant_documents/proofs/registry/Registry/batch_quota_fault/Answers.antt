use Rattle.std.proofs.Common.{◌<◌, ◌^◌, length, subst, arith}
use Rattle.definitions.specs.Documents.{bytes_of, documents_with_all}
use Rattle.definition_laws.proofs.AcceptedBatches.{unrepeated}
use Rattle.stored_documents.specs.DocumentLists.{documents_in}
use Rattle.stored_documents.specs.SharedStored.{stored_documents}
use Rattle.tenant_documents.specs.HeldBeside.{replaced_by}
use Rattle.tenant_documents.specs.Puts.{IsSum}
use Rattle.tenant_documents.specs.Registries.{registry_view}
use Rattle.tenant_documents.proofs.BatchSizes.{bytes_after, number_after, small_replaced}
use Rattle.tenant_documents.proofs.KeptRegistries.{registry_both}
use Rattle.tenant_documents.proofs.QuotaFaults.{too_many}
use Rattle.tenant_documents.proofs.StoredLists.{count_after, over_all, stored_long, with_added}
use Rattle.tenant_documents.proofs.registry.Registry.batch_quota_fault.Goals as goal

pub returns-in-Some : goal.returns-in-Some
unfolding registry_view
returns-in-Some c =
    let ds = documents_in c.args.self.now.documents in
    let ss = c.args.documents.now in
    let es = stored_documents ss in
    let ascend = (registry_both c.args.self.now).own.ascend in
    let once = unrepeated es c.requires.once in
    let left = c.left_over-count in
    c.quota_fault.ensures (documents_with_all es ds) (record {
      documents =
          count_after c.in-Some.count left.result.0 (length ss) (length (replaced_by es ds)) (length ds) (length es) (length (documents_with_all es ds)) c.in-Some.ensures.1 left.ensures.count
          (number_after es ds ascend once) (stored_long ss);
      together =
          subst (IsSum c.sum_with-bytes.result)
          (with_added left.result.1 (bytes_of (replaced_by es ds)) (bytes_of ds) (bytes_of es) (bytes_of (documents_with_all es ds)) left.ensures.bytes (bytes_after es ds ascend once)
          (small_replaced es ds ascend once))
          (c.sum_with-bytes.ensures (bytes_of es) c.added_bytes.ensures);
    })

pub returns-in-None : goal.returns-in-None
unfolding registry_view
returns-in-None c =
    let ds = documents_in c.args.self.now.documents in
    let ss = c.args.documents.now in
    let es = stored_documents ss in
    let ascend = (registry_both c.args.self.now).own.ascend in
    let once = unrepeated es c.requires.once in
    let left = c.left_over-count in
    let small : c.document_quota.result < 2 ^ 64 = omega (arith, c.document_quota.type_inv) in
    too_many (registry_view c.args.self.now) (documents_with_all es ds)
    (over_all left.result.0 (length ss) (length (replaced_by es ds)) (length ds) (length es) (length (documents_with_all es ds)) c.args.self.now.most_documents c.document_quota.result
    c.in-None.ensures left.ensures.count (number_after es ds ascend once) (stored_long ss) c.document_quota.ensures small)

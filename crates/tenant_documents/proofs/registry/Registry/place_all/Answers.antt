use Rattle.std.proofs.Common.{◌≡◌, ◌≤◌, None, Some, Option, List, map, ap, sym, ◌∙◌, subst, arith}
use Rattle.std.proofs.lemmas.Result.{err_from_is_err_and}
use Rattle.std.specs.Global.{Global}
use Rattle.std.specs.declared.rc.Rc.{Rc}
use Rattle.definitions.specs.Batches.{batch_refusal, each_stored}
use Rattle.definitions.specs.Documents.{documents_with_all, bytes_of}
use Rattle.definitions.specs.Faults as meaning
use Rattle.definitions.specs.Registries.{refused}
use Rattle.faults.specs.View.{fault_view}
use Rattle.faults.specs.declared.Fault.{Fault}
use Rattle.requests.specs.Views.{stored_entry_view}
use Rattle.stored_documents.specs.DocumentLists.{documents_in}
use Rattle.stored_documents.specs.StaleClaims.{none_stale_later}
use Rattle.stored_documents.specs.SharedStored.{stored_documents}
use Rattle.stored_documents.specs.declared.stored.Stored.{Stored}
use Rattle.tenant_documents.specs.Batches.{IsPutTogether}
use Rattle.tenant_documents.specs.Registries.{registry_view}
use Rattle.tenant_documents.specs.declared.registry.Registry.{Registry}
use Rattle.tenant_documents.proofs.AnsweredBatches.{granted_together, no_room_after_judging, no_room_together, refused_together}
use Rattle.tenant_documents.proofs.GrantedBatches.{AreGranted, are_granted, within_after_all}
use Rattle.tenant_documents.proofs.Refusals.{either_way, for_each_fault}
use Rattle.tenant_documents.proofs.registry.Registry.place_all.Goals as goal

-- the documents are judged as a slice
judged : (r : Registry) (ss ts : List (Rc Stored Global)) (o : Option meaning.Fault) → ts ≡ ss
    → batch_refusal (registry_view r) (stored_documents ts) (documents_with_all (stored_documents ts) (registry_view r).documents) ≡ o
    → batch_refusal (registry_view r) (stored_documents ss) (documents_with_all (stored_documents ss) (registry_view r).documents) ≡ o
judged r ss ts o e is =
    subst (λ (xs : List (Rc Stored Global)). batch_refusal (registry_view r) (stored_documents xs) (documents_with_all (stored_documents xs) (registry_view r).documents) ≡ o) e is

granted_so : (r : Registry) (ss ts : List (Rc Stored Global)) → ts ≡ ss
    → batch_refusal (registry_view r) (stored_documents ts) (documents_with_all (stored_documents ts) (documents_in r.documents)) ≡ None → AreGranted r (stored_documents ss)
unfolding registry_view
granted_so r ss ts e none = are_granted r (stored_documents ss) (judged r ss ts None e none)

pub insert_all-requires-clause-once : goal.insert_all-requires-clause-once
unfolding registry_view
insert_all-requires-clause-once c =
    (granted_so c.args.self.now c.args.documents.items c.deref.result.now c.deref.ensures.value c.in_ok-judge_all.ensures.ok).once

pub insert_all-requires-clause-free : goal.insert_all-requires-clause-free
unfolding registry_view
insert_all-requires-clause-free c =
    (granted_so c.args.self.now c.args.documents.items c.deref.result.now c.deref.ensures.value c.in_ok-judge_all.ensures.ok).free

pub insert_all-requires-clause-fits : goal.insert_all-requires-clause-fits
unfolding registry_view
insert_all-requires-clause-fits c =
    let r = c.args.self.now in
    let within : bytes_of (documents_with_all (stored_documents c.args.documents.items) (documents_in r.documents)) ≤ r.most_bytes =
    (granted_so r c.args.documents.items c.deref.result.now c.deref.ensures.value c.in_ok-judge_all.ensures.ok).small in
    omega (arith, within, c.byte_quota.ensures, c.byte_quota.type_inv)

pub invariant_of-self : goal.invariant_of-self
unfolding registry_view
invariant_of-self c =
    let r = c.args.self.now in
    let ds = stored_documents c.args.documents.items in
    let new = documents_in c.insert_all.new.self in
    let granted = granted_so r c.args.documents.items c.deref.result.now c.deref.ensures.value c.in_ok-judge_all.ensures.ok in
    let after =
    within_after_all r ds new granted
    (either_way (new ≡ documents_with_all ds (documents_in r.documents)) (new ≡ documents_in r.documents) c.insert_all.result c.insert_all.ensures.placed c.insert_all.ensures.kept) in
    record { few = after.few; small = after.small; apart = after.apart; fresh = none_stale_later c.args.self.now.documents c.insert_all.new.self c.insert_all.ensures.fresh c.args.self.now.fresh }

pub returns-in-Ok-clause-ok : goal.returns-in-Ok-clause-ok
unfolding registry_view
returns-in-Ok-clause-ok c =
    let r = c.args.self.now in
    let g = registry_view r in
    let ds = stored_documents c.args.documents.items in
    granted_together g ds (documents_in c.insert_all.new.self) (map stored_entry_view c.in_ok-replies.replies.items)
    (judged r c.args.documents.items c.deref.result.now None c.deref.ensures.value c.in_ok-judge_all.ensures.ok)
    (c.in_ok-replies.ensures.ok ∙ ap (λ ss. each_stored g (stored_documents ss)) c.deref-2.ensures.value)
    c.in-Ok.ensures.placed

pub returns-in-Err-clause-err : goal.returns-in-Err-clause-err
unfolding registry_view
returns-in-Err-clause-err c =
    let g = registry_view c.args.self.now in
    let ds = stored_documents c.args.documents.items in
    subst (λ (f : Fault). IsPutTogether g ds (refused (fault_view f)) (record g { documents = documents_in c.insert_all.new.self })) (sym c.in-Err.ensures.err)
    (no_room_after_judging g ds (documents_in c.insert_all.new.self) c.in-Err.ensures.kept)

pub returns-in_err-judge_all-clause-err : goal.returns-in_err-judge_all-clause-err
returns-in_err-judge_all-clause-err c =
    let p = err_from_is_err_and c.from_residual.result c.from_residual.ensures.1 in
    let g = registry_view c.args.self.now in
    let ds = stored_documents c.args.documents.items in
    rw (p.1, p.2) (for_each_fault (λ f. IsPutTogether g ds (refused f) g) c.in_err-judge_all.field-0.0
    (λ other. refused_together g ds (fault_view c.in_err-judge_all.field-0.0)
    (judged c.args.self.now c.args.documents.items c.deref.result.now (Some (fault_view c.in_err-judge_all.field-0.0)) c.deref.ensures.value (c.in_err-judge_all.ensures.err other)))
    (no_room_together g ds))

use Rattle.std.proofs.Common.{◌≡◌, ◌≤◌, None, is_some, string_bytes, sym, ap, ◌∙◌, subst, arith}
use Rattle.definitions.specs.Documents.{document_of, documents_with, bytes_of}
use Rattle.definitions.specs.Patterns.{regular_search}
use Rattle.definitions.specs.Registries.{put_refusal, refused}
use Rattle.faults.specs.View.{fault_view}
use Rattle.faults.specs.declared.Fault.{Fault}
use Rattle.stored_documents.specs.DocumentLists.{documents_in}
use Rattle.stored_documents.specs.StaleClaims.{none_stale_later}
use Rattle.stored_documents.specs.StoredDocuments.{stored_view}
use Rattle.stored_documents.specs.declared.stored.Stored.{Stored}
use Rattle.tenant_documents.specs.Puts.{IsPut}
use Rattle.tenant_documents.specs.Registries.{registry_view}
use Rattle.tenant_documents.specs.declared.registry.Registry.{Registry}
use Rattle.tenant_documents.proofs.KeptRegistries.{free_in, bytes_within, within_after_put}
use Rattle.tenant_documents.proofs.Refusals.{either_way}
use Rattle.tenant_documents.proofs.SentDocuments.{granted_after, no_room_after}
use Rattle.tenant_documents.proofs.registry.Registry.insert.Goals as goal

-- a shared document is refused for what it is refused for itself
shared : (r : Registry) (s t : Stored) → t ≡ s
    → put_refusal regular_search (registry_view r) (stored_view s) (documents_with (stored_view s) (documents_in r.documents)) ≡ None
    → put_refusal regular_search (registry_view r) (stored_view t) (documents_with (stored_view t) (documents_in r.documents)) ≡ None
shared r s t e none =
    subst (λ (x : Stored). put_refusal regular_search (registry_view r) (stored_view x) (documents_with (stored_view x) (documents_in r.documents)) ≡ None) (sym e) none

pub insert-requires-clause-free : goal.insert-requires-clause-free
unfolding registry_view
insert-requires-clause-free c =
    let r = c.args.self.now in
    free_in r (stored_view c.in-Ok.document.value) (shared r c.args.document c.in-Ok.document.value c.in-Ok.ensures.ok c.in_ok-judge.ensures.ok)

pub insert-requires-clause-fits : goal.insert-requires-clause-fits
unfolding registry_view
insert-requires-clause-fits c =
    let r = c.args.self.now in
    let within : bytes_of (documents_with (stored_view c.in-Ok.document.value) (documents_in r.documents)) ≤ r.most_bytes =
    bytes_within r (stored_view c.in-Ok.document.value) (shared r c.args.document c.in-Ok.document.value c.in-Ok.ensures.ok c.in_ok-judge.ensures.ok) in
    omega (arith, within, c.byte_quota.ensures, c.byte_quota.type_inv)

pub invariant_of-self : goal.invariant_of-self
unfolding registry_view
invariant_of-self c =
    let r = c.args.self.now in
    let d = stored_view c.in-Ok.document.value in
    let new = documents_in c.insert.new.self in
    let after =
    within_after_put r d new (shared r c.args.document c.in-Ok.document.value c.in-Ok.ensures.ok c.in_ok-judge.ensures.ok)
    (either_way (new ≡ documents_with d (documents_in r.documents)) (new ≡ documents_in r.documents) c.insert.result c.insert.ensures.placed c.insert.ensures.kept) in
    record { few = after.few; small = after.small; apart = after.apart; fresh = none_stale_later c.args.self.now.documents c.insert.new.self c.insert.ensures.fresh c.args.self.now.fresh }

pub returns-in-Ok-insert-clause-ok : goal.returns-in-Ok-insert-clause-ok
unfolding registry_view
returns-in-Ok-insert-clause-ok c =
    let g = registry_view c.args.self.now in
    let d = stored_view c.args.document in
    granted_after g d (string_bytes c.in_ok-uri.uri) c.in-Ok-insert.replaced (documents_in c.insert.new.self) c.in_ok-judge.ensures.ok
    (c.in_ok-uri.ensures.ok ∙ c.canonical.ensures)
    (c.in-Ok-insert.ensures.replaced ∙ ap (λ s. is_some (document_of g.documents (stored_view s).canonical)) c.in-Ok.ensures.ok)
    (c.in-Ok-insert.ensures.placed ∙ ap (λ s. documents_with (stored_view s) g.documents) c.in-Ok.ensures.ok)

pub returns-in-Err-insert-clause-err : goal.returns-in-Err-insert-clause-err
unfolding registry_view
returns-in-Err-insert-clause-err c =
    let g = registry_view c.args.self.now in
    let d = stored_view c.args.document in
    subst (λ (f : Fault). IsPut g d (refused (fault_view f)) (record g { documents = documents_in c.insert.new.self })) (sym c.in-Err-insert.ensures.err)
    (no_room_after g d (documents_in c.insert.new.self) c.in-Err-insert.ensures.kept)

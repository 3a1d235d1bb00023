use Rattle.std.proofs.Common.{◌≡◌, false, true, is_some, string_bytes, sym, ap, ◌∙◌}
use Rattle.definitions.specs.Documents.{document_of, others_of}
use Rattle.definitions.specs.Registries.{is_in_library}
use Rattle.stored_documents.specs.DocumentLists.{documents_in}
use Rattle.stored_documents.specs.StaleClaims.{none_stale_later}
use Rattle.tenant_documents.specs.Registries.{registry_view}
use Rattle.tenant_documents.proofs.KeptRegistries.{within_after_delete}
use Rattle.tenant_documents.proofs.SentDocuments.{deleted_after, not_found_after}
use Rattle.tenant_documents.proofs.registry.Registry.remove.Goals as goal

pub invariant_of-self : goal.invariant_of-self
invariant_of-self c =
    let after = within_after_delete c.args.self.now c.as_str-2.result.now (documents_in c.remove.new.self) c.remove.ensures.others in
    record { few = after.few; small = after.small; apart = after.apart; fresh = none_stale_later c.args.self.now.documents c.remove.new.self c.remove.ensures.fresh c.args.self.now.fresh }

pub returns-then-not-remove-clause-err : goal.returns-then-not-remove-clause-err
unfolding registry_view
returns-then-not-remove-clause-err c =
    let g = registry_view c.args.self.now in
    let uri = string_bytes c.args.canonical in
    let unowned : is_in_library g uri ≡ false = ap (is_in_library g) (sym c.as_str.ensures.value) ∙ sym c.in_ok-is_in_library.ensures ∙ c.if-branch.false in
    let absent : is_some (document_of g.documents uri) ≡ false =
    ap (λ u. is_some (document_of g.documents u)) (sym c.as_str-2.ensures.value) ∙ sym c.remove.ensures.removed ∙ c.if-not-remove.true in
    not_found_after g uri (documents_in c.remove.new.self) unowned absent (c.remove.ensures.others ∙ ap (λ u. others_of u g.documents) c.as_str-2.ensures.value)

pub returns-clause-ok : goal.returns-clause-ok
unfolding registry_view
returns-clause-ok c =
    let g = registry_view c.args.self.now in
    let uri = string_bytes c.args.canonical in
    let unowned : is_in_library g uri ≡ false = ap (is_in_library g) (sym c.as_str.ensures.value) ∙ sym c.in_ok-is_in_library.ensures ∙ c.if-branch.false in
    let there : is_some (document_of g.documents uri) ≡ true =
    ap (λ u. is_some (document_of g.documents u)) (sym c.as_str-2.ensures.value) ∙ sym c.remove.ensures.removed ∙ c.if-not-remove.false in
    deleted_after g uri (documents_in c.remove.new.self) unowned there (c.remove.ensures.others ∙ ap (λ u. others_of u g.documents) c.as_str-2.ensures.value)

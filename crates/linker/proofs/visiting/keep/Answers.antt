use Rattle.std.proofs.Common.{◌≡◌, ◌++◌, ◌∷◌, [], true, false, cond, Option, Some, None, is_some, is_none, inr, ap, sym, refl, ◌∙◌, subst, true≢false}
use Rattle.definitions.specs.Documents.{document_of, documents_with}
use Rattle.schema_scan.specs.CompiledDocuments.{compiled_view}
use Rattle.schema_scan.specs.declared.compiled.Compiled.{Compiled}
use Rattle.linker.specs.CompoundDocuments.{compound_documents}
use Rattle.linker.specs.SharedDocuments.{shared_documents}
use Rattle.linker.specs.Visits.{AreCompound, with_compound}
use Rattle.linker.proofs.Compound.{compound_placed}
use Rattle.linker.proofs.Shared.{shared_pushed}
use Rattle.linker.proofs.Visits.{nothing_found}
use Rattle.linker.proofs.visiting.keep.Goals as goal

nothing : {A : Type 0} (o : Option A) → is_none o ≡ true → is_some o ≡ false
nothing None e = refl
nothing (Some x) e = absurd (true≢false (sym e))

pub returns-in_ok-push-clause-kept : goal.returns-in_ok-push-clause-kept
returns-in_ok-push-clause-kept c =
    let put = c.in_ok-insert_in_order.ensures.put in
    let same = c.in_ok-again.ensures.cases in
    inr (
      nothing _ (sym c.in_ok-insert_in_order.ensures.absent ∙ c.if-branch.true),
      (put ∙ ap (λ b. cond b (documents_with (compiled_view c.args.document.value) (shared_documents c.args.reached.now.items)) (shared_documents c.args.reached.now.items)) c.if-branch.true),
      ap shared_documents c.in_ok-push.ensures.items ∙ shared_pushed c.args.waiting.now.items c.in_ok-again.again
          ∙ ap (λ (d : Compiled). shared_documents c.args.waiting.now.items ++ compiled_view d ∷ []) same,
    )

pub returns-in_ok-push-clause-known : goal.returns-in_ok-push-clause-known
returns-in_ok-push-clause-known c =
    let d = compiled_view c.args.document.value in
    let ds = shared_documents c.args.reached.now.items in
    let put = c.in_ok-insert_in_order.ensures.put ∙ ap (λ b. cond b (documents_with d ds) ds) c.if-branch.true in
    let new : is_some (document_of ds d.canonical) ≡ false = nothing _ (sym c.in_ok-insert_in_order.ensures.absent ∙ c.if-branch.true) in
    let noted = c.in_ok-add.ensures.ok ∙ ap (λ (x : Compiled). with_compound (compiled_view x) (compound_documents c.args.compound.now)) c.in_ok-again.ensures.cases in
    subst (λ r. AreCompound r (compound_documents c.add.new.self)) (sym put)
    (subst (AreCompound (documents_with d ds)) (sym noted) (compound_placed ds (compound_documents c.args.compound.now) d c.requires.known (nothing_found ds d new)))

pub returns-else-branch-clause-known : goal.returns-else-branch-clause-known
returns-else-branch-clause-known c =
    let d = compiled_view c.args.document.value in
    let ds = shared_documents c.args.reached.now.items in
    subst (λ r. AreCompound r (compound_documents c.args.compound.now))
    (sym (c.in_ok-insert_in_order.ensures.put ∙ ap (λ b. cond b (documents_with d ds) ds) c.if-branch.false)) c.requires.known

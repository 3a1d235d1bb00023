use Rattle.std.proofs.Common.{◌≡◌, ◌++◌, ◌∷◌, [], length, cond, ap, sym, ◌∙◌, arith}
use Rattle.definitions.specs.Documents.{resources_of}
use Rattle.schema_scan.specs.CompiledDocuments.{compiled_view}
use Rattle.schema_scan.specs.declared.compiled.Compiled.{Compiled}
use Rattle.linker.specs.CompoundDocuments.{compound_documents}
use Rattle.linker.specs.Visits.{with_compound}
use Rattle.linker.proofs.CanonicalHolders.{as_many}
use Rattle.linker.proofs.compound_documents.CompoundDocuments.add.Goals as goal
use borrow.Author.Tests.{lt-ltb, le-ltb}

pub returns-in_ok-push : goal.returns-in_ok-push
unfolding with_compound
returns-in_ok-push c =
    let d = compiled_view c.args.document.now.value in
    let before = compound_documents c.args.self.now in
    let many : length c.resource_uris.result.now ≡ length (resources_of d) =
    as_many c.resource_uris.result.now _ c.resource_uris.ensures ∙ ap (λ x. length (resources_of (compiled_view x))) c.deref.ensures in
    record {
      ok = c.in_ok-push.ensures
          ∙ ap (λ (x : Compiled). before ++ compiled_view x ∷ []) c.in_ok-clone.ensures.cases
          ∙ ap (λ b. cond b (before ++ d ∷ []) before) (sym (lt-ltb 1 (length (resources_of d)) (omega (arith, many, c.if-resource_uris-gt1.true))));
    }

pub returns-else-resource_uris-gt1 : goal.returns-else-resource_uris-gt1
unfolding with_compound
returns-else-resource_uris-gt1 c =
    let d = compiled_view c.args.document.now.value in
    let before = compound_documents c.args.self.now in
    let many : length c.resource_uris.result.now ≡ length (resources_of d) =
    as_many c.resource_uris.result.now _ c.resource_uris.ensures ∙ ap (λ x. length (resources_of (compiled_view x))) c.deref.ensures in
    record { ok = ap (λ b. cond b (before ++ d ∷ []) before) (sym (le-ltb 1 (length (resources_of d)) (omega (arith, many, c.if-resource_uris-gt1.false)))) }

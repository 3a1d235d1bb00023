use Rattle.std.proofs.Common.{◌≡◌, ℕ, List, ap, sym, refl, ◌∙◌, subst, arith, is_none}
use Rattle.std.specs.Global.{Global}
use Rattle.std.specs.declared.rc.Rc.{Rc}
use Rattle.definitions.specs.Values.{Text}
use Rattle.definitions.specs.Schemas.{Document}
use Rattle.lemmas.proofs.Lists.{map-insert}
use Rattle.schema_scan.specs.CompiledDocuments.{compiled_view}
use Rattle.schema_scan.specs.declared.compiled.Compiled.{Compiled}
use Rattle.linker.specs.Positions.{StandsAt, IsGap}
use Rattle.linker.specs.SharedDocuments.{shared_documents}
use Rattle.linker.proofs.Positions.{absent_unfound, standing_some, shared_as_long}
use Rattle.linker.proofs.insertion.insert_in_order.Goals as goal

-- what a search in the same list for the same URI says
carried : (P : List Document → Text → ℕ → Type 0) {items others : List (Rc Compiled Global)} {d e : Compiled} {uri : Text} {at : ℕ}
    → items ≡ others → uri ≡ (compiled_view d).canonical → d ≡ e → P (shared_documents items) uri at → P (shared_documents others) (compiled_view e).canonical at
carried P {items} {others} {d} {e} {uri} {at} same is moved p =
    subst (λ x. P (shared_documents others) (compiled_view x).canonical at) moved
    (subst (λ u. P (shared_documents others) u at) is (subst (λ xs. P (shared_documents xs) uri at) same p))

pub insert-requires : goal.insert-requires
insert-requires c = omega (arith, c.in-Err.ensures.absent.inside, shared_as_long c.deref.result.now, c.deref.ensures.len)

pub returns-in-Ok-clause-absent : goal.returns-in-Ok-clause-absent
returns-in-Ok-clause-absent c =
    sym (standing_some _ _ _ (carried StandsAt c.deref.ensures.value c.canonical.ensures c.deref-2.ensures c.in-Ok.ensures.found))

pub returns-in_ok-insert-in-Err-clause-absent : goal.returns-in_ok-insert-in-Err-clause-absent
returns-in_ok-insert-in-Err-clause-absent c =
    sym (ap is_none (absent_unfound _ _ _ (carried IsGap c.deref.ensures.value c.canonical.ensures c.deref-2.ensures c.in-Err.ensures.absent)))

pub returns-in_ok-insert-in-Err-clause-put : goal.returns-in_ok-insert-in-Err-clause-put
unfolding shared_documents
returns-in_ok-insert-in-Err-clause-put c =
    let gap = carried IsGap c.deref.ensures.value c.canonical.ensures c.deref-2.ensures c.in-Err.ensures.absent in
    ap shared_documents c.in_ok-insert-in-Err.ensures.items
    ∙ map-insert (λ (d : Rc Compiled Global). compiled_view d.value) c.args.documents.now.items c.in-Err.at c.args.document
    ∙ gap.put (compiled_view c.args.document.value) refl

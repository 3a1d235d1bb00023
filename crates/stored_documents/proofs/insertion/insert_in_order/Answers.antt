use Rattle.std.proofs.Common.{◌≡◌, ℕ, List, Some, ap, sym, refl, ◌∙◌, subst, arith}
use Rattle.std.proofs.Math.ListN.{set}
use Rattle.std.proofs.lemmas.List.{map-set}
use Rattle.std.specs.Global.{Global}
use Rattle.std.specs.declared.rc.Rc.{Rc}
use Rattle.definitions.specs.Values.{Text}
use Rattle.definitions.specs.Schemas.{Document}
use Rattle.lemmas.proofs.Lists.{map-insert}
use Rattle.linker.specs.Positions.{StandsAt, IsGap}
use Rattle.linker.proofs.Positions.{absent_unfound}
use Rattle.stored_documents.specs.SharedStored.{stored_documents}
use Rattle.stored_documents.specs.StoredDocuments.{stored_view}
use Rattle.stored_documents.specs.declared.stored.Stored.{Stored}
use Rattle.stored_documents.proofs.PlacedThere.{put_instead}
use Rattle.stored_documents.proofs.StandingDocuments.{stored_as_long, stored_standing}
use Rattle.stored_documents.proofs.insertion.insert_in_order.Goals as goal

-- what a search in the same list for the same URI says
carried : (P : List Document → Text → ℕ → Type 0) {items others : List (Rc Stored Global)} {d e : Stored} {uri : Text} {at : ℕ}
    → items ≡ others → uri ≡ (stored_view d).canonical → d ≡ e → P (stored_documents items) uri at → P (stored_documents others) (stored_view e).canonical at
carried P {items} {others} {d} {e} {uri} {at} same is moved p =
    subst (λ x. P (stored_documents others) (stored_view x).canonical at) moved
    (subst (λ u. P (stored_documents others) u at) is (subst (λ xs. P (stored_documents xs) uri at) same p))

pub insert-requires : goal.insert-requires
insert-requires c = omega (arith, c.in-Err.ensures.absent.inside, stored_as_long c.deref.result.now, c.deref.ensures.len)

pub index_mut-requires : goal.index_mut-requires
index_mut-requires c = omega (arith, c.in-Ok.ensures.found.inside, stored_as_long c.deref.result.now, c.deref.ensures.len)

pub returns-in-Ok-clause-placed : goal.returns-in-Ok-clause-placed
unfolding stored_documents
returns-in-Ok-clause-placed c =
    let items = c.args.documents.now.items in
    let stands = carried StandsAt c.deref.ensures.value c.canonical.ensures c.deref-2.ensures c.in-Ok.ensures.found in
    map-set (λ (s : Rc Stored Global). stored_view s.value) items c.in-Ok.at c.replace.new.dest
    ∙ ap (λ (s : Rc Stored Global). set (stored_documents items) c.in-Ok.at (stored_view s.value)) c.replace.ensures.after
    ∙ put_instead (stored_view c.args.document.value) (stored_documents items) c.in-Ok.at c.requires stands

pub returns-in-Ok-clause-replaced : goal.returns-in-Ok-clause-replaced
returns-in-Ok-clause-replaced c =
    let stands = carried StandsAt c.deref.ensures.value c.canonical.ensures c.deref-2.ensures c.in-Ok.ensures.found in
    sym (stored_standing c.args.documents.now.items (stored_view c.args.document.value).canonical c.in-Ok.at c.index_mut.result.now c.requires stands c.index_mut.ensures.value
    ∙ ap (λ (s : Rc Stored Global). Some (stored_view s.value)) (sym c.replace.ensures.value))

pub returns-in_ok-insert-in-Err-clause-placed : goal.returns-in_ok-insert-in-Err-clause-placed
unfolding stored_documents
returns-in_ok-insert-in-Err-clause-placed c =
    let gap = carried IsGap c.deref.ensures.value c.canonical.ensures c.deref-2.ensures c.in-Err.ensures.absent in
    ap stored_documents c.in_ok-insert-in-Err.ensures.items
    ∙ map-insert (λ (s : Rc Stored Global). stored_view s.value) c.args.documents.now.items c.in-Err.at c.args.document
    ∙ gap.put (stored_view c.args.document.value) refl

pub returns-in_ok-insert-in-Err-clause-replaced : goal.returns-in_ok-insert-in-Err-clause-replaced
returns-in_ok-insert-in-Err-clause-replaced c =
    sym (absent_unfound _ _ _ (carried IsGap c.deref.ensures.value c.canonical.ensures c.deref-2.ensures c.in-Err.ensures.absent))

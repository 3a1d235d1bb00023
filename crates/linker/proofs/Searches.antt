-- Shared documents from some place on.
use Rattle.std.proofs.Common.{◌≡◌, ◌<◌, ◌≤◌, ◌+◌, ℕ, List, Contains, length, get_or, drop, ap, subst, ◌∙◌, inl, inr}
use Rattle.std.proofs.lemmas.List.{at_drop_more, at_drop_all}
use Rattle.std.specs.Global.{Global}
use Rattle.std.specs.declared.rc.Rc.{Rc}
use Rattle.definitions.specs.Schemas.{Document}
use Rattle.schema_scan.specs.CompiledDocuments.{compiled_view}
use Rattle.schema_scan.specs.declared.compiled.Compiled.{Compiled}
use Rattle.definition_laws.proofs.Membership.{nothing_in, first_or_later}
use Rattle.linker.specs.SharedDocuments.{shared_documents}

pub nothing_left : (xs : List (Rc Compiled Global)) (i : ℕ) → length xs ≤ i → (d : Document) → Contains (shared_documents (drop i xs)) d → ⊥
unfolding shared_documents
nothing_left xs i l d c = nothing_in d (subst (λ ds. Contains ds d) (at_drop_all shared_documents xs i l) c)

-- what stands from here on, and isn't the document here, stands further on
pub further_on : (xs : List (Rc Compiled Global)) (i : ℕ) (x : Rc Compiled Global) → i < length xs → x ≡ get_or xs i x
    → (d : Document) → (compiled_view x.value ≡ d → ⊥) → Contains (shared_documents (drop i xs)) d → Contains (shared_documents (drop (i + 1) xs)) d
unfolding shared_documents
further_on xs i x l e d other c =
    let here = subst (λ ds. Contains ds d) (at_drop_more shared_documents xs i x l) c in
    elim (first_or_later (compiled_view (get_or xs i x).value) d (shared_documents (drop (i + 1) xs)) here) [
      | inl same ↦ absurd (other (ap (λ y. compiled_view y.value) e ∙ same))
      | inr later ↦ later
    ]

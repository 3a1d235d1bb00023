use Rattle.std.proofs.Common.{◌≡◌, length, Some, None, option_map, ap, sym, ◌∙◌, arith}
use Rattle.std.proofs.lemmas.Bool.Decides.{nat_tests}
use Rattle.definitions.specs.Faults.{unresolved}
use Rattle.linker.specs.SharedDocuments.{shared_documents}
use Rattle.linker.proofs.LinkFaults.{none_found, judged}
use Rattle.linker.proofs.Positions.{shared_as_long}
use Rattle.linker.proofs.linking.judge.Goals as goal

pub returns-then-is_empty-clause-err : goal.returns-then-is_empty-clause-err
returns-then-is_empty-clause-err c = λ other.
    let none : length c.args.documents.now ≡ 0 = grind (arith, nat_tests, c.if-is_empty.ensures) in
    none_found (shared_documents c.args.documents.now) (shared_as_long c.args.documents.now ∙ none)

pub returns-in_ok-to_owned-in-Some-clause-err : goal.returns-in_ok-to_owned-in-Some-clause-err
returns-in_ok-to_owned-in-Some-clause-err c = λ other.
    let some_there : length c.args.documents.now ≡ 0 → ⊥ = λ e. grind (arith, nat_tests, c.if-is_empty.ensures, e) in
    judged (shared_documents c.args.documents.now) (Some c.in-Some.reference.now) (λ e. some_there (sym (shared_as_long c.args.documents.now) ∙ e))
    (ap (option_map (λ t. t.now)) (sym c.in-Some.is) ∙ c.in_ok-reference.ensures)
    ∙ ap (λ t. Some (unresolved t)) (sym c.in_ok-to_owned-in-Some.ensures.ok)

pub returns-in-None-clause-ok : goal.returns-in-None-clause-ok
returns-in-None-clause-ok c =
    let some_there : length c.args.documents.now ≡ 0 → ⊥ = λ e. grind (arith, nat_tests, c.if-is_empty.ensures, e) in
    judged (shared_documents c.args.documents.now) None (λ e. some_there (sym (shared_as_long c.args.documents.now) ∙ e))
    (ap (option_map (λ t. t.now)) (sym c.in-None.is) ∙ c.in_ok-reference.ensures)

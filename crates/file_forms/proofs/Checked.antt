-- Checks over the documents that were gathered.
use Rattle.std.proofs.Common.{◌≡◌, ◌∙◌, ℕ, List, Option, ap, max, subst}
use Rattle.command_line.specs.Calls.{Checks}
use Rattle.definitions.specs.Values.{Text}
use Rattle.file_checks.specs.Tallies.{status_of}
use Rattle.file_checks.specs.declared.tally.Tally.{Tally}
use Rattle.file_forms.specs.Accounts.{Accounts, State, status_of_all}
use Rattle.file_forms.specs.Checks.{AreChecked, AreCheckedBy, given_of, judge_by, state_with}
use Rattle.file_forms.specs.Gathered.{Folder}
use Rattle.file_forms.specs.Judged.{IsAccount, IsJudged}
use Rattle.file_forms.specs.Roots.{IsLinkedRoot}
use Rattle.file_forms.specs.Subjects.{Holds, Lists, Subject}
use Rattle.file_forms.specs.Tellings.{state_of}
use Rattle.file_forms.specs.declared.answering.Printing.{Printing}
use Rattle.linker.specs.declared.linked.Linked.{Linked}

pub are_checked : (holds : Holds) (lists : Lists) (runs_in : Folder) (checks : Checks) (linked : Linked) (input left : Option Text) (before after : State) → IsLinkedRoot holds lists runs_in (given_of checks) linked
    → AreCheckedBy holds lists checks linked input left before after → AreChecked holds lists runs_in checks input left before after
are_checked holds lists runs_in checks linked input left before after root x =
    let accounts = x.accounts in
    record {
      root = root.root;
      documents = root.documents;
      gathered = root.gathered;
      subjects = x.subjects;
      named = x.named;
      accounts = record {
        accounts = accounts.accounts;
        named = accounts.named;
        each = λ k d within. subst (λ u. IsAccount (judge_by checks root.documents u) _) root.uri (accounts.each k d within root.documents root.among);
        printed = accounts.printed;
        told = accounts.told;
        status = accounts.status;
      };
    }

pub by_linked : (k l : Linked) (p q : Printing) (subjects : List Subject) (a b c d c' d' : Text) (first last : Tally) (status : ℕ)
    → k ≡ l → p ≡ q → status_of first.invalid first.refused ≡ 0 → c' ≡ c → d' ≡ d → status ≡ status_of last.invalid last.refused
    → Accounts (IsJudged k p) subjects (state_of a b first) (state_of c d last) → Accounts (IsJudged l q) subjects (state_with a b 0) (state_with c' d' status)
by_linked k l p q subjects a b c d c' d' first last status same_linked same_printing begins ec ed ends x =
    let y : Accounts (IsJudged l q) subjects (state_of a b first) (state_of c d last) =
    subst (λ m. Accounts (IsJudged m q) subjects (state_of a b first) (state_of c d last)) same_linked (subst (λ z. Accounts (IsJudged k z) subjects (state_of a b first) (state_of c d last)) same_printing x) in
    record {
      accounts = y.accounts;
      named = y.named;
      each = y.each;
      printed = ec ∙ y.printed;
      told = ed ∙ y.told;
      status = ends ∙ y.status ∙ ap (λ n. max n (status_of_all y.accounts)) begins;
    }

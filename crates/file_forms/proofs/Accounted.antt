-- One account, none, and some after others.
use Rattle.std.proofs.Common.{◌≡◌, ◌++◌, ◌∷◌, [], ◌∙◌, ℕ, List, Option, None, Result, Ok, Err, ap, refl, sym, max, map, String, Global, string_bytes, append_assoc, arith, inl, inr}
use Rattle.std.specs.List.{All, concat}
use Rattle.std.proofs.lemmas.List.{append-nil, map-append}
use Rattle.std.proofs.lemmas.List.Folds.{concat-append}
use Rattle.std.proofs.lemmas.List.Elements.{All-append, All-nil, All-push}
use Rattle.std.proofs.Math.Nat.{max-zero, zero-max}
use Rattle.definitions.specs.Values.{Text}
use Rattle.file_checks.specs.declared.tally.Verdict.{Verdict}
use Rattle.file_checks.specs.declared.tally.Verdict.TheVariants.{Refused}
use Rattle.file_forms.specs.Accounts.{Account, Accounts, State, status_of_all, verdict_status}
use Rattle.file_forms.specs.Judged.{ByLinked, IsAnswerOf, IsJudged}
use Rattle.file_forms.specs.Refusals.{IsUnread}
use Rattle.file_forms.specs.Subjects.{Subject, instance_at, unread}
use Rattle.file_forms.specs.Tellings.{IsToldOf}
use Rattle.file_forms.specs.declared.answering.Printing.{Printing}
use Rattle.file_forms.specs.declared.trouble.Trouble.{Trouble}
use Rattle.linker.specs.declared.linked.Linked.{Linked}

pub none : (P : Account → Type 0) (s : State) → Accounts P [] s s
none P s = record { accounts = []; named = refl; each = All-nil P; printed = sym (append-nil s.printed); told = sym (append-nil s.told); status = sym (max-zero s.status) }

one : (P : Account → Type 0) (a : Account) (s t : State) → P a → t.printed ≡ s.printed ++ a.printed → t.told ≡ s.told ++ a.told → t.status ≡ max s.status (verdict_status a.verdict)
    → Accounts P (a.subject ∷ []) s t
one P a s t is printed told status = record {
  accounts = a ∷ [];
  named = refl;
  each = All-push P [] a (All-nil P) is;
  printed = printed ∙ ap (λ x. s.printed ++ x) (sym (append-nil a.printed));
  told = told ∙ ap (λ x. s.told ++ x) (sym (append-nil a.told));
  status = status ∙ ap (max s.status) (sym (max-zero (verdict_status a.verdict)));
}

max_assoc : (a b c : ℕ) → max (max a b) c ≡ max a (max b c)
max_assoc a b c = omega arith

status_of_both : (xs ys : List Account) → status_of_all (xs ++ ys) ≡ max (status_of_all xs) (status_of_all ys)
status_of_both [] ys = sym (zero-max (status_of_all ys))
status_of_both (x ∷ xs) ys = ap (max (verdict_status x.verdict)) (status_of_both xs ys) ∙ sym (max_assoc (verdict_status x.verdict) (status_of_all xs) (status_of_all ys))

-- what more of a text is printed
printed_both : (f : Account → Text) (xs ys : List Account) (a b c : Text) → b ≡ a ++ concat (map f xs) → c ≡ b ++ concat (map f ys) → c ≡ a ++ concat (map f (xs ++ ys))
printed_both f xs ys a b c first second =
    second ∙ ap (λ t. t ++ concat (map f ys)) first ∙ append_assoc a (concat (map f xs)) (concat (map f ys))
    ∙ ap (λ t. a ++ t) (sym (concat-append (map f xs) (map f ys)) ∙ ap concat (sym (map-append f xs ys)))

pub joined : (P : Account → Type 0) (ms ns : List Subject) (r s t : State) → Accounts P ms r s → Accounts P ns s t → Accounts P (ms ++ ns) r t
joined P ms ns r s t x y = record {
  accounts = x.accounts ++ y.accounts;
  named = map-append (λ a. a.subject) x.accounts y.accounts ∙ ap (λ l. l ++ map (λ a. a.subject) y.accounts) x.named ∙ ap (λ l. ms ++ l) y.named;
  each = All-append P x.accounts y.accounts x.each y.each;
  printed = printed_both (λ a. a.printed) x.accounts y.accounts r.printed s.printed t.printed x.printed y.printed;
  told = printed_both (λ a. a.told) x.accounts y.accounts r.told s.told t.told x.told y.told;
  status = y.status ∙ ap (λ n. max n (status_of_all y.accounts)) x.status ∙ max_assoc r.status (status_of_all x.accounts) (status_of_all y.accounts) ∙ ap (max r.status) (sym (status_of_both x.accounts y.accounts));
}

-- ---- one instance
pub checked : (linked : Linked) (printing : Printing) (path : Text) (line : Option ℕ) (text : Text) (r : Result (Verdict × String Global) Trouble) (s t : State)
    → ByLinked linked printing (λ judge. IsAnswerOf judge path line text r) → IsToldOf printing.format path line r s t → Accounts (IsJudged linked printing) (instance_at path line text ∷ []) s t
checked linked printing path line text (Ok answer) s t judged told =
    let account : Account = record { subject = instance_at path line text; verdict = answer.0; printed = string_bytes answer.1; told = [] } in
    one (IsJudged linked printing) account s t (λ documents among. inl (record { answer = judged documents among; untold = refl })) told.0 (told.1 ∙ sym (append-nil s.told)) told.2
checked linked printing path line text (Err trouble) s t judged told =
    let account : Account = record { subject = instance_at path line text; verdict = Refused; printed = told.0.printed; told = told.1.lines } in
    one (IsJudged linked printing) account s t
    (λ documents among.
    inr (record { fault = (judged documents among).fault; judged = (judged documents among).judged; trouble = trouble; is = (judged documents among).is; troubled = record { refused = refl; printed = told.0.is; told = told.1.told } }))
    told.0.behind told.1.behind told.2

-- what can't be read
pub unreadable : (linked : Linked) (printing : Printing) (path : Text) (trouble : Trouble) (s t : State) → IsUnread path trouble → IsToldOf printing.format path None (Err trouble) s t
    → Accounts (IsJudged linked printing) (unread path ∷ []) s t
unreadable linked printing path trouble s t is told =
    let account : Account = record { subject = unread path; verdict = Refused; printed = told.0.printed; told = told.1.lines } in
    one (IsJudged linked printing) account s t (λ documents among. record { trouble = trouble; is = is; troubled = record { refused = refl; printed = told.0.is; told = told.1.told } })
    told.0.behind told.1.behind told.2
